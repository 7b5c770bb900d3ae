-- The adapted tree, and what was adapted in it, for whoever calls `adapt` or `adaptations`; and the upgraded one, for whoever calls `upgrade` or
-- `upgrades`: how a set of rules goes through a tree, by the member tables.
use Rattle.std.specs.Prelude.{ℕ, suc, List, [], ◌∷◌, ◌++◌, Bool, if◌then◌else◌, codes}
use Rattle.std.specs.Str.{bytes_eq}
use Rattle.serde_json.specs.Data.{Data, null, boolean, number, string, array, object, Items, no_items, item, Members, no_members, member}
use Rattle.utoipa_base.specs.Extensions.{is_extension}
use Rattle.utoipa_base.specs.Kinds.{path_item_object, media_type_object, reference_object, http_scheme, Kind, any, list_of, map_of, ordered_map_of, entries_of, ref_or, named, schema, array_items, additional_properties, security_scheme}
use Rattle.utoipa_base.specs.Tables.{table}
use Rattle.utoipa_check.specs.Misfits.{Step, at_name, at_index}
use Rattle.utoipa_tables.specs.Tables.{members_in, schema_members}
use Rattle.utoipa_adapt.specs.Rules.{RuleSet, of_model, of_upgrade, Rule, applies, changed, by_rules, rules_in}
use Rattle.utoipa_adapt.specs.Trees.{has, says}

-- ---- as what each tree in a tree is looked at. As `any` a tree is left as it is.

-- Reference Object (section 4.8.23): where one may stand, an object with `$ref` is one. What adapts it to the model leaves it as it is.
abbrev pub reference_kind : RuleSet → Kind → Kind
reference_kind of_model k = any
-- OpenAPI 3.0.3, section 4.7.7, lists what may be a reference there. A path item is none: its `$ref` is a field (section 4.7.9.1). Nor is a media type.
reference_kind of_upgrade (named path_item_object) = named path_item_object
reference_kind of_upgrade (named media_type_object) = named media_type_object
reference_kind of_upgrade k = named reference_object

-- a schema where the model reads no reference. In OpenAPI 3.0 each schema may be one.
abbrev pub schema_kind : RuleSet → (is_reference : Bool) → Kind
schema_kind of_model is_reference = schema
schema_kind of_upgrade is_reference = if is_reference then named reference_object else schema

abbrev pub taken_kind : RuleSet → (is_reference : Bool) → Kind → Kind
taken_kind set is_reference (ref_or k) = if is_reference then reference_kind set k else taken_kind set is_reference k
taken_kind set is_reference array_items = if is_reference then reference_kind set array_items else array_items
taken_kind set is_reference additional_properties = if is_reference then reference_kind set additional_properties else additional_properties
taken_kind set is_reference schema = schema_kind set is_reference
taken_kind set is_reference k = k

-- Security Scheme Object (section 4.8.27): of `http` alone there is a rule
abbrev pub scheme_kind : Kind → Data → Kind
scheme_kind security_scheme d = if says (codes "type") (codes "http") d then named http_scheme else any
scheme_kind k d = k

-- a tree at a place of a kind
abbrev pub own_kind : RuleSet → Kind → Data → Kind
own_kind set k d = scheme_kind (taken_kind set (has (codes "$ref") d) k) d

-- the items of an array of a kind
abbrev pub item_kind : Kind → Kind
item_kind (list_of k) = k
item_kind k = any

-- what stands beside a name
abbrev pub kind_in : List ℕ → List (List ℕ × Kind) → Kind
kind_in name [] = any
kind_in name (m ∷ ms) = if bytes_eq name m.0 then m.1 else kind_in name ms

-- a member of an object of a kind; of a schema, whatever alternative it turns out to be
abbrev pub member_kind : Kind → List ℕ → Kind
member_kind (map_of k) name = k
member_kind (ordered_map_of k) name = k
member_kind (entries_of k) name = if is_extension name then any else k
member_kind (named n) name = kind_in name (members_in (table n))
member_kind schema name = kind_in name schema_members
member_kind array_items name = kind_in name schema_members
member_kind additional_properties name = kind_in name schema_members
member_kind k name = any

-- ---- the tree that a set of rules makes

-- a tree after the rules of its kind
abbrev pub ruled : RuleSet → Kind → Data → Data
ruled set k d = by_rules (rules_in set k) d

abbrev mutual
  -- a tree after what stands in it was made, looked at as of a kind
  pub within : RuleSet → Data → Kind → Data
  within set null k = null
  within set (boolean b) k = boolean b
  within set (number n) k = number n
  within set (string s) k = string s
  within set (array ds) k = array (made_items set ds (item_kind k))
  within set (object ms) k = object (made_members set ms k)

  pub made_items : RuleSet → Items → Kind → Items
  made_items set no_items k = no_items
  made_items set (item d ds) k = item (ruled set (own_kind set k d) (within set d (own_kind set k d))) (made_items set ds k)

  pub made_members : RuleSet → Members → Kind → Members
  made_members set no_members k = no_members
  made_members set (member name d ms) k =
      member name (ruled set (own_kind set (member_kind k name) d) (within set d (own_kind set (member_kind k name) d))) (made_members set ms k)

-- the tree that the rules make of one that stands where a document of a kind may: first what stands in it, then the tree itself
abbrev pub made : RuleSet → Kind → Data → Data
made set k d = ruled set (own_kind set k d) (within set d (own_kind set k d))

-- the rules that change a tree, one after the other, each of which sees what those before it have made
abbrev pub rules_at_work : List Rule → Data → List Rule
rules_at_work [] d = []
rules_at_work (r ∷ rs) d = if applies r d then r ∷ rules_at_work rs (changed r d) else rules_at_work rs d

-- those of a tree, once what stands in it is made
abbrev pub at_work_in : RuleSet → Kind → Data → List Rule
at_work_in set k d = rules_at_work (rules_in set (own_kind set k d)) (within set d (own_kind set k d))

-- ---- what was changed

-- a place, as the steps that lead to it, and the rule that changed the tree there
abbrev pub Told : Type 0
Told = List Step × Rule

-- what was changed in a tree, by the places of the tree that it stands in
abbrev pub under : Step → List Told → List Told
under s [] = []
under s (t ∷ ts) = (s ∷ t.0, t.1) ∷ under s ts

-- the rules that apply to a tree, as it was
abbrev pub told_here : List Rule → Data → List Told
told_here [] d = []
told_here (r ∷ rs) d = if applies r d then ([], r) ∷ told_here rs d else told_here rs d

abbrev mutual
  -- what was changed inside a tree, looked at as of a kind
  pub told_within : RuleSet → Data → Kind → List Told
  told_within set null k = []
  told_within set (boolean b) k = []
  told_within set (number n) k = []
  told_within set (string s) k = []
  told_within set (array ds) k = items_told set 0 ds (item_kind k)
  told_within set (object ms) k = members_told set ms k

  pub items_told : RuleSet → ℕ → Items → Kind → List Told
  items_told set i no_items k = []
  items_told set i (item d ds) k =
      under (at_index i) (told_within set d (own_kind set k d) ++ told_here (rules_in set (own_kind set k d)) d) ++ items_told set (suc i) ds k

  pub members_told : RuleSet → Members → Kind → List Told
  members_told set no_members k = []
  members_told set (member name d ms) k =
      under (at_name name) (told_within set d (own_kind set (member_kind k name) d) ++ told_here (rules_in set (own_kind set (member_kind k name) d)) d)
      ++ members_told set ms k

-- all that was changed, with its places in the tree as it was; what changed a tree itself comes after what changed the trees in it
abbrev pub changes : RuleSet → Kind → Data → List Told
changes set k d = told_within set d (own_kind set k d) ++ told_here (rules_in set (own_kind set k d)) d

-- those of a tree itself
abbrev pub changes_of_tree : RuleSet → Kind → Data → List Told
changes_of_tree set k d = told_here (rules_in set (own_kind set k d)) d

-- the tree itself, changed by a rule
abbrev pub at_tree : Rule → Told
at_tree r = ([], r)

-- ---- adapted to the model

-- the tree, adapted to be read as a document of a kind
abbrev pub adapted : Kind → Data → Data
adapted k d = made of_model k d

-- all that was adapted
abbrev pub adaptations : Kind → Data → List Told
adaptations k d = changes of_model k d

-- that of a tree itself
abbrev pub told_of_tree : Kind → Data → List Told
told_of_tree k d = changes_of_tree of_model k d

-- the rules that adapt a tree itself, once what stands in it is adapted
abbrev pub at_work : Kind → Data → List Rule
at_work k d = at_work_in of_model k d

-- ---- upgraded from OpenAPI 3.0 to 3.1

-- the tree of 3.0, upgraded to one of 3.1 at a place of a kind
abbrev pub upgraded : Kind → Data → Data
upgraded k d = made of_upgrade k d

-- all that was upgraded
abbrev pub upgrades : Kind → Data → List Told
upgrades k d = changes of_upgrade k d

-- that of a tree itself
abbrev pub upgrades_of_tree : Kind → Data → List Told
upgrades_of_tree k d = changes_of_tree of_upgrade k d

-- the rules that upgrade a tree itself, once what stands in it is upgraded
abbrev pub upgrades_at_work : Kind → Data → List Rule
upgrades_at_work k d = at_work_in of_upgrade k d
