-- What it means that a misfit of a tree is true.
--
-- The steps of the misfit lead from the tree to a tree inside it. The member tables say of each tree on the way what is due there, and so what
-- the next one is to be. At its end the cause holds of what is due there and of the tree that is there. So "the member `zzz` is required" is true
-- of no tree but an object that lacks it, at a place where a table with a required row `zzz` is due.
--
-- A fraction is the exception. No document holds one anywhere, so it is true wherever it stands, also where no table leads.
use Rattle.std.specs.Prelude.{◌≡◌, ◌⊎◌, ℕ, List, [], ◌∷◌, Bool, true, false, Option, None, Some, is_some, codes}
use Rattle.std.specs.List.{list_any}
use Rattle.std.specs.Str.{bytes_eq}
use Rattle.serde_json.specs.Data.{Num, Data, null, boolean, number, string, array, object, Members}
use Rattle.serde_json.specs.Find.{get, get_member, is_float}
use Rattle.utoipa_base.specs.Choices.{chosen, scheme_types, api_key_places, flow_keys, is_schema_type}
use Rattle.utoipa_base.specs.Extensions.{is_extension}
use Rattle.utoipa_base.specs.Kinds.{ObjectType, reference_object, type_word, Kind, text, word_of, list_of, map_of, ordered_map_of, entries_of, ref_or, named, schema, schema_type, array_items, additional_properties, security_scheme, api_key, flows, Mark, required, optional, or_null, defaulted, Row}
use Rattle.utoipa_base.specs.Reading.{is_null, read}
use Rattle.utoipa_base.specs.Tables.{table}
use Rattle.utoipa_base.specs.Words.{words}
use Rattle.utoipa_tables.specs.Tables.{words_of_choices, flow_choices, flow_kinds}
use Rattle.utoipa_check.specs.IsDropped.{StandsIn}
use Rattle.utoipa_check.specs.Misfits.{Step, at_name, at_index, Cause, absent, expected, unknown_word, no_alternative, unknown_name, fraction, Misfits, meant_schema}
use Rattle.utoipa_check.specs.Places.{members_at}

-- ---- what is due at a place

pub data Due : Type 0 where
  -- a tree of a kind
  of_kind : Kind → Due
  -- an OAuth flow of any type, under a key that names none
  of_any_flow : Due
  -- one of these words, by which the object around it says what it is
  of_words : List (List ℕ) → Due

-- ---- as which kind a tree is taken, where one is due

-- an object has a member of this name
abbrev pub Names : List ℕ → Data → Type 0
Names name t = is_some (get name t) ≡ true

-- a tree reads as a kind
abbrev pub Reads : Kind → Data → Type 0
Reads k t = is_some (read k t) ≡ true

-- a schema is taken as one of its five tables: as the one that was meant, or as one that it reads as
abbrev pub IsTakenAsTable : Data → ObjectType → Type 0
IsTakenAsTable t n = (is_schema_type n ≡ true) × ((n ≡ meant_schema (members_at t)) ⊎ Reads (named n) t)

abbrev pub IsTakenAsSchema : Data → Kind → Type 0
IsTakenAsSchema t j = (j ≡ schema) ⊎ ((n : ObjectType) × (j ≡ named n) × IsTakenAsTable t n)

-- where a reference may stand, a tree is taken as one if it names `$ref`
abbrev pub IsTakenAsReference : Data → Kind → Type 0
IsTakenAsReference t j = (j ≡ named reference_object) × Names (codes "$ref") t

-- and else as what the place holds, also where it names `$ref` and does not read as a reference
abbrev pub IsNoReference : Data → Type 0
IsNoReference t = (is_some (get (codes "$ref") t) ≡ false) ⊎ (read (named reference_object) t ≡ None)

-- the text of a member chooses a kind
abbrev pub Chooses : List ℕ → List (List ℕ × Kind) → Data → Kind → Type 0
Chooses name choices t j = (word : List ℕ) × (get name t ≡ Some (string word)) × (chosen word choices ≡ Some j)

abbrev pub IsTakenAsKey : Data → Kind → Type 0
IsTakenAsKey t j = (j ≡ api_key) ⊎ Chooses (codes "in") api_key_places t j

abbrev pub IsTakenAsScheme : Data → Kind → Type 0
IsTakenAsScheme t j = (j ≡ security_scheme) ⊎ (Chooses (codes "type") scheme_types t j ⊎ (Chooses (codes "type") scheme_types t api_key × IsTakenAsKey t j))

-- where the first kind is due, the tree is taken as the second
abbrev pub IsTakenAs : Kind → Data → Kind → Type 0
IsTakenAs (ref_or k) t j = (j ≡ ref_or k) ⊎ (IsTakenAsReference t j ⊎ (IsNoReference t × IsTakenAs k t j))
IsTakenAs array_items t j = (j ≡ array_items) ⊎ (IsTakenAsReference t j ⊎ (IsNoReference t × IsTakenAsSchema t j))
IsTakenAs additional_properties t j = (j ≡ additional_properties) ⊎ (IsTakenAsReference t j ⊎ (IsNoReference t × IsTakenAsSchema t j))
IsTakenAs schema t j = IsTakenAsSchema t j
IsTakenAs security_scheme t j = IsTakenAsScheme t j
IsTakenAs api_key t j = IsTakenAsKey t j
IsTakenAs k t j = j ≡ k

-- the same of all that may be due
abbrev pub Stands : Due → Data → Due → Type 0
Stands (of_kind k) t e = (j : Kind) × IsTakenAs k t j × (e ≡ of_kind j)
Stands of_any_flow t e = e ≡ of_any_flow
Stands (of_words ws) t e = e ≡ of_words ws

-- ---- steps

abbrev pub IsRow : Row → List Row → Type 0
IsRow r [] = ⊥
IsRow r (q ∷ rs) = (r ≡ q) ⊎ IsRow r rs

-- by the mark of its row, a member has to fit: an optional one that is null is as if it were absent
abbrev pub HasToFit : Mark → Data → Type 0
HasToFit required t = Unit {0}
HasToFit optional t = is_null t ≡ false
HasToFit or_null t = is_null t ≡ false
HasToFit defaulted t = Unit {0}

abbrev pub flow_due : Option ObjectType → Due
flow_due None = of_any_flow
flow_due (Some n) = of_kind (named n)

-- of the tree behind a step, from one that is taken as a kind, this is due
abbrev pub IsDueBehind : Step → Kind → Due → Data → Type 0
IsDueBehind (at_name name) (named n) e t = (r : Row) × IsRow r (table n) × (r.name ≡ name) × (e ≡ of_kind r.kind) × HasToFit r.mark t
IsDueBehind (at_name name) (map_of k) e t = e ≡ of_kind k
IsDueBehind (at_name name) (ordered_map_of k) e t = e ≡ of_kind k
IsDueBehind (at_name name) (entries_of k) e t = (is_extension name ≡ false) × (e ≡ of_kind k)
IsDueBehind (at_name name) flows e t = e ≡ flow_due (chosen name flow_keys)
IsDueBehind (at_name name) security_scheme e t = (name ≡ codes "type") × (e ≡ of_words (words_of_choices scheme_types))
IsDueBehind (at_name name) api_key e t = (name ≡ codes "in") × (e ≡ of_words (words_of_choices api_key_places))
IsDueBehind (at_index i) (list_of k) e t = e ≡ of_kind k
IsDueBehind (at_index i) schema_type e t = e ≡ of_kind (word_of type_word)
IsDueBehind s k e t = ⊥

-- a step leads from a tree that is taken as a kind to one that stands in it, of which this is due
abbrev pub StepsTo : Step → Kind → Data → Due → Data → Type 0
StepsTo s k d e t = StandsIn s t d × IsDueBehind s k e t

-- the steps lead from a tree, where the first is due, to a tree that stands as the second
abbrev pub Leads : List Step → Due → Data → Due → Data → Type 0
Leads [] e d f t = Stands e d f × (d ≡ t)
Leads (s ∷ p) e d f t = (k : Kind) × Stands e d (of_kind k) × ((g : Due) × (i : Data) × StepsTo s k d g i × Leads p g i f t)

-- ---- causes

-- a tree is an object without a member
abbrev pub Lacks : List ℕ → Data → Type 0
Lacks name t = (ms : Members) × (t ≡ object ms) × (get_member name ms ≡ None)

-- an object of a kind has to have a member of this name: by a row of its table, or to choose what it is
abbrev pub Requires : Kind → List ℕ → Type 0
Requires (named n) name = (r : Row) × IsRow r (table n) × (r.name ≡ name) × (r.mark ≡ required)
Requires security_scheme name = name ≡ codes "type"
Requires api_key name = name ≡ codes "in"
Requires k name = ⊥

abbrev pub IsRequiredAt : Due → List ℕ → Type 0
IsRequiredAt (of_kind k) name = Requires k name
IsRequiredAt e name = ⊥

-- the kind that is due at a place: a word is a text
abbrev pub kind_at : Due → Option Kind
kind_at (of_kind k) = Some k
kind_at of_any_flow = None
kind_at (of_words ws) = Some text

-- the sorts of trees
pub data Sort : Type 0 where
  null_sort : Sort
  boolean_sort : Sort
  number_sort : Sort
  string_sort : Sort
  array_sort : Sort
  object_sort : Sort

abbrev pub sort : Data → Sort
sort null = null_sort
sort (boolean b) = boolean_sort
sort (number n) = number_sort
sort (string s) = string_sort
sort (array ds) = array_sort
sort (object ms) = object_sort

-- whether the kind says what its trees hold inside, so that a tree of its sort has misfits inside or fits
abbrev pub is_container : Sort → Kind → Bool
is_container array_sort (list_of k) = true
is_container array_sort schema_type = true
is_container object_sort (map_of k) = true
is_container object_sort (ordered_map_of k) = true
is_container object_sort (entries_of k) = true
is_container object_sort (named n) = true
is_container object_sort schema = true
is_container object_sort array_items = true
is_container object_sort additional_properties = true
is_container object_sort security_scheme = true
is_container object_sort api_key = true
is_container object_sort flows = true
is_container string_sort (word_of v) = true
is_container string_sort schema_type = true
is_container s (ref_or k) = true
is_container s k = false

-- a tree is not of a kind, and the fault is with the tree and not with what stands in it
abbrev pub IsOfAnotherSort : Kind → Data → Type 0
IsOfAnotherSort k t = (read k t ≡ None) × (is_container (sort t) k ≡ false)

-- the words that are due at a place
abbrev pub words_at : Due → Option (List (List ℕ))
words_at (of_kind (word_of v)) = Some (words v)
words_at (of_kind schema_type) = Some (words type_word)
words_at (of_kind k) = None
words_at of_any_flow = None
words_at (of_words ws) = Some ws

-- a tree is a text, and none of these words
abbrev pub IsNoWord : List (List ℕ) → Data → Type 0
IsNoWord ws t = (s : List ℕ) × (t ≡ string s) × (list_any (bytes_eq s) ws ≡ false)

-- the kinds of which a tree at a place is to be one
abbrev pub kinds_at : Due → List Kind
kinds_at (of_kind k) = k ∷ []
kinds_at of_any_flow = flow_kinds flow_keys
kinds_at (of_words ws) = text ∷ []

-- a tree reads as none of these kinds
abbrev pub IsNoneOf : List Kind → Data → Type 0
IsNoneOf [] t = Unit {0}
IsNoneOf (k ∷ ks) t = (read k t ≡ None) × IsNoneOf ks t

-- a tree is an OAuth flow under a name that is none of these, and these are the names of flows
abbrev pub IsUnderNoName : List (List ℕ) → Due → Type 0
IsUnderNoName ns e = (e ≡ of_any_flow) × (ns ≡ words_of_choices (flow_choices flow_keys))

-- a tree is a number that is neither an i64 nor a u64
abbrev pub IsFraction : Data → Type 0
IsFraction t = (n : Num) × (t ≡ number n) × (is_float n ≡ true)

-- a cause holds of what is due at a place and of the tree that is there
abbrev pub Holds : Cause → Due → Data → Type 0
Holds (absent name) e t = IsRequiredAt e name × Lacks name t
Holds (expected k) e t = (kind_at e ≡ Some k) × IsOfAnotherSort k t
Holds (unknown_word ws) e t = (words_at e ≡ Some ws) × IsNoWord ws t
Holds (no_alternative ks) e t = (kinds_at e ≡ ks) × IsNoneOf ks t
Holds (unknown_name ns) e t = IsUnderNoName ns e
Holds fraction e t = IsFraction t

-- ---- misfits

-- the steps lead to a tree inside another, whatever is due
abbrev pub Reaches : List Step → Data → Data → Type 0
Reaches [] d t = d ≡ t
Reaches (s ∷ p) d t = (i : Data) × StandsIn s i d × Reaches p i t

-- the cause holds where the steps lead
abbrev pub IsTrueAt : Cause → List Step → Due → Data → Type 0
IsTrueAt fraction p e d = (t : Data) × Reaches p d t × Holds fraction e t
IsTrueAt c p e d = (f : Due) × (t : Data) × Leads p e d f t × Holds c f t

abbrev pub AllTrueAt : Due → Data → Misfits → Type 0
AllTrueAt e d [] = Unit {0}
AllTrueAt e d (m ∷ ms) = IsTrueAt m.1 m.0 e d × AllTrueAt e d ms

-- all misfits are true of a tree where a kind is due
abbrev pub AllTrue : Kind → Data → Misfits → Type 0
AllTrue k d ms = AllTrueAt (of_kind k) d ms
