-- The places of a tree that do not fit a kind, each with the cause.
use Rattle.std.specs.Prelude.{ℕ, suc, List, [], ◌∷◌, ◌++◌, Bool, true, false, ◌||◌, ◌&&◌, not, if◌then◌else◌, Option, None, Some, is_some, codes}
use Rattle.std.specs.List.{list_any}
use Rattle.std.specs.Str.{bytes_eq}
use Rattle.std.specs.Ordering.{nat_cmp, match_ordering}
use Rattle.std.specs.Cmp.Lexicographic.{slice_cmp}
use Rattle.serde_json.specs.Data.{Num, Data, null, boolean, number, string, array, object, Items, no_items, item, Members, no_members, member}
use Rattle.serde_json.specs.Find.{as_u64, as_integer, get_member, is_float}
use Rattle.utoipa_base.specs.Kinds.{ObjectType, reference_object, one_of_schema, all_of_schema, any_of_schema, array_schema, object_schema, type_word, Kind, text, flag, whole, numeral, any, word_of, version, list_of, map_of, ordered_map_of, entries_of, ref_or, named, schema, schema_type, schema_format, array_items, additional_properties, security_scheme, api_key, flows, Mark, required, optional, or_null, defaulted, Row}
use Rattle.utoipa_base.specs.Words.{words}
use Rattle.utoipa_base.specs.Version.{read_version}
use Rattle.utoipa_base.specs.Choices.{chosen, scheme_types, api_key_places, flow_keys, schema_keywords}
use Rattle.utoipa_base.specs.Tables.{table}
use Rattle.utoipa_base.specs.Extensions.{is_extension}
use Rattle.utoipa_base.specs.Reading.{is_null, is_named}
use Rattle.utoipa_tables.specs.Tables.{words_of_choices, flow_kinds}

-- ---- misfits

-- a step from a tree to one that stands in it
pub data Step : Type 0 where
  at_name : List ℕ → Step
  at_index : ℕ → Step

-- why a tree does not fit
pub data Cause : Type 0 where
  -- an object without this member, which is required
  absent : List ℕ → Cause
  -- a tree of another sort than the kind's
  expected : Kind → Cause
  -- a text that is none of these words
  unknown_word : List (List ℕ) → Cause
  -- a tree that is of none of these kinds
  no_alternative : List Kind → Cause
  -- a tree under a name that is none of these, which would say what it is. It is read as one of them, and so no misfit has this cause
  unknown_name : List (List ℕ) → Cause
  -- a number that is neither an i64 nor a u64, which no document holds, whatever its place expects
  fraction : Cause

-- a place, as the steps that lead to it, and the cause
abbrev pub Misfit : Type 0
Misfit = List Step × Cause

abbrev pub Misfits : Type 0
Misfits = List Misfit

-- the tree itself
abbrev pub here : Cause → Misfits
here c = ([], c) ∷ []

-- misfits of a tree, by the places of the tree that it stands in
abbrev pub under : Step → Misfits → Misfits
under s [] = []
under s (m ∷ ms) = (s ∷ m.0, m.1) ∷ under s ms

-- whether there are none
abbrev pub is_fit : Misfits → Bool
is_fit [] = true
is_fit (m ∷ ms) = false

-- why a tree of another sort does not fit: a fraction is told as one, and of any other tree the kind that is expected
abbrev pub mismatch : Kind → Data → Cause
mismatch k null = expected k
mismatch k (boolean b) = expected k
mismatch k (number n) = if is_float n then fraction else expected k
mismatch k (string s) = expected k
mismatch k (array ds) = expected k
mismatch k (object ms) = expected k

abbrev pub expect : Bool → Kind → Misfits
expect true k = []
expect false k = here (expected k)

abbrev pub expect_of : Bool → Kind → Data → Misfits
expect_of true k d = []
expect_of false k d = here (mismatch k d)

abbrev pub expect_word : List (List ℕ) → List ℕ → Misfits
expect_word ws s = if list_any (bytes_eq s) ws then [] else here (unknown_word ws)

-- the misfits of a choice: none where an alternative fits, else those of the alternative that was meant, and if that has none, the choice
abbrev pub unless_fit : Bool → Misfits → List Kind → Misfits
unless_fit true meant ks = []
unless_fit false [] ks = here (no_alternative ks)
unless_fit false (m ∷ ms) ks = m ∷ ms

-- the same of a reference and another choice, by whether `$ref` is named: none where one of them fits
abbrev pub reference_or : Bool → Misfits → Misfits → Misfits
reference_or b [] own = []
reference_or b (r ∷ rs) [] = []
reference_or true (r ∷ rs) (m ∷ ms) = r ∷ rs
reference_or false (r ∷ rs) (m ∷ ms) = m ∷ ms

-- ---- the members of an object, each with whether it is null and what does not fit

-- as `Part` of `Reading`
abbrev pub Check : Type 0
Check = Bool × (Kind → Misfits)

abbrev pub Checks : Type 0
Checks = List (List ℕ × Check)

-- the check at a name
abbrev pub check_at : List ℕ → Checks → Option Check
check_at k [] = None
check_at k (c ∷ cs) = match_ordering (slice_cmp nat_cmp k c.0) (check_at k cs) (Some c.1) (check_at k cs)

-- the checks of members that are no extensions
abbrev pub entry_checks : Checks → Checks
entry_checks [] = []
entry_checks (c ∷ cs) = if is_extension c.0 then entry_checks cs else c ∷ entry_checks cs

-- ---- rows

abbrev pub row_misfits : Mark → List ℕ → Kind → Option Check → Misfits
row_misfits required name k None = here (absent name)
row_misfits required name k (Some c) = under (at_name name) (c.1 k)
row_misfits optional name k None = []
row_misfits optional name k (Some c) = if c.0 then [] else under (at_name name) (c.1 k)
row_misfits or_null name k None = []
row_misfits or_null name k (Some c) = if c.0 then [] else under (at_name name) (c.1 k)
row_misfits defaulted name k None = []
row_misfits defaulted name k (Some c) = under (at_name name) (c.1 k)

abbrev pub rows_misfits : List Row → Checks → Misfits
rows_misfits [] cs = []
rows_misfits (r ∷ rs) cs = row_misfits r.mark r.name r.kind (check_at r.name cs) ++ rows_misfits rs cs

abbrev pub table_misfits : ObjectType → Checks → Misfits
table_misfits n cs = rows_misfits (table n) cs

-- ---- lists and maps

abbrev pub items_misfits : ℕ → Kind → List (Kind → Misfits) → Misfits
items_misfits i k [] = []
items_misfits i k (c ∷ cs) = under (at_index i) (c k) ++ items_misfits (suc i) k cs

abbrev pub entries_misfits : Kind → Checks → Misfits
entries_misfits k [] = []
entries_misfits k (c ∷ cs) = under (at_name c.0) (c.1.1 k) ++ entries_misfits k cs

-- ---- choices

-- whether a member is the word `array`
abbrev pub says_array : Option Data → Bool
says_array None = false
says_array (Some null) = false
says_array (Some (boolean b)) = false
says_array (Some (number n)) = false
says_array (Some (string s)) = bytes_eq s (codes "array")
says_array (Some (array ds)) = false
says_array (Some (object ms)) = false

-- the type of schema that an object was meant for: the first of the combinations that it names, an array where it names members of
-- arrays alone or says that it is one, else an object
abbrev pub meant_schema : Members → ObjectType
meant_schema ms =
    if is_named (codes "oneOf") ms then one_of_schema else
    (if is_named (codes "allOf") ms then all_of_schema else
    (if is_named (codes "anyOf") ms then any_of_schema else
    (if is_named (codes "items") ms || is_named (codes "prefixItems") ms || says_array (get_member (codes "type") ms) then array_schema else object_schema)))

abbrev pub fits_table : ObjectType → Checks → Bool
fits_table n cs = is_fit (table_misfits n cs)

-- an object of any other type: one that names its type, or no keyword of the others
abbrev pub may_be_object : Members → Bool
may_be_object ms = is_named (codes "type") ms || not (list_any (λ name. is_named name ms) schema_keywords)

abbrev pub fits_schema : Members → Checks → Bool
fits_schema ms cs =
    fits_table one_of_schema cs || (fits_table all_of_schema cs || (fits_table any_of_schema cs || (fits_table array_schema cs || (may_be_object ms && fits_table object_schema cs))))

abbrev pub schema_misfits : Members → Checks → Misfits
schema_misfits ms cs = unless_fit (fits_schema ms cs) (table_misfits (meant_schema ms) cs) (schema ∷ [])

-- a reference was meant where `$ref` is named
abbrev pub ref_or_misfits : Kind → Misfits → Members → Checks → Misfits
ref_or_misfits k own ms cs =
    unless_fit (fits_table reference_object cs || is_fit own) (if is_named (codes "$ref") ms then table_misfits reference_object cs else own) (ref_or k ∷ [])

-- an alternative that the word of a member has chosen, where no alternative of it is left to choose
abbrev pub alternative_misfits : Checks → Kind → Misfits
alternative_misfits cs (named n) = table_misfits n cs
alternative_misfits cs k = here (no_alternative [])

abbrev pub chosen_misfits : List ℕ → List (List ℕ × Kind) → (Kind → Misfits) → Option Kind → Misfits
chosen_misfits name choices f None = under (at_name name) (here (unknown_word (words_of_choices choices)))
chosen_misfits name choices f (Some k) = f k

-- the alternative that a member chooses, by the tree at it
abbrev pub tagged_misfits : List ℕ → List (List ℕ × Kind) → (Kind → Misfits) → Option Data → Misfits
tagged_misfits name choices f None = here (absent name)
tagged_misfits name choices f (Some null) = under (at_name name) (here (expected text))
tagged_misfits name choices f (Some (boolean b)) = under (at_name name) (here (expected text))
tagged_misfits name choices f (Some (number n)) = under (at_name name) (here (mismatch text (number n)))
tagged_misfits name choices f (Some (string s)) = chosen_misfits name choices f (chosen s choices)
tagged_misfits name choices f (Some (array ds)) = under (at_name name) (here (expected text))
tagged_misfits name choices f (Some (object ms)) = under (at_name name) (here (expected text))

abbrev pub api_key_misfits : Members → Checks → Misfits
api_key_misfits ms cs = tagged_misfits (codes "in") api_key_places (alternative_misfits cs) (get_member (codes "in") ms)

abbrev pub scheme_misfits : Members → Checks → Kind → Misfits
scheme_misfits ms cs api_key = api_key_misfits ms cs
scheme_misfits ms cs k = alternative_misfits cs k

abbrev pub security_scheme_misfits : Members → Checks → Misfits
security_scheme_misfits ms cs = tagged_misfits (codes "type") scheme_types (scheme_misfits ms cs) (get_member (codes "type") ms)

-- a flow of the type that its key has chosen, or under another key of the first type that fits
abbrev pub flow_misfits : Option ObjectType → (Kind → Misfits) → Misfits
flow_misfits (Some n) f = f (named n)
flow_misfits None f = unless_fit (list_any (λ k. is_fit (f k)) (flow_kinds flow_keys)) [] (flow_kinds flow_keys)

abbrev pub flows_misfits : Checks → Misfits
flows_misfits [] = []
flows_misfits (c ∷ cs) = under (at_name c.0) (flow_misfits (chosen c.0 flow_keys) c.1.1) ++ flows_misfits cs

-- ---- trees of each sort

-- whether null is of the kind
abbrev pub null_fits : Kind → Bool
null_fits any = true
null_fits schema_type = true
null_fits k = false

abbrev pub boolean_fits : Bool → Kind → Bool
boolean_fits b flag = true
boolean_fits b any = true
boolean_fits b additional_properties = true
boolean_fits b array_items = not b
boolean_fits b k = false

abbrev pub number_fits : Num → Kind → Bool
number_fits n whole = is_some (as_u64 n)
number_fits n numeral = is_some (as_integer n)
number_fits n any = true
number_fits n k = false

abbrev pub null_misfits : Kind → Misfits
null_misfits (ref_or k) = null_misfits k
null_misfits k = expect (null_fits k) k

abbrev pub boolean_misfits : Bool → Kind → Misfits
boolean_misfits b (ref_or k) = boolean_misfits b k
boolean_misfits b k = expect (boolean_fits b k) k

abbrev pub number_misfits : Num → Kind → Misfits
number_misfits n (ref_or k) = number_misfits n k
number_misfits n k = expect_of (number_fits n k) k (number n)

abbrev pub string_misfits : List ℕ → Kind → Misfits
string_misfits s text = []
string_misfits s any = []
string_misfits s (word_of v) = expect_word (words v) s
string_misfits s version = expect (is_some (read_version s)) version
string_misfits s schema_type = expect_word (words type_word) s
string_misfits s schema_format = []
string_misfits s (ref_or k) = string_misfits s k
string_misfits s k = here (expected k)

abbrev pub array_misfits : List (Kind → Misfits) → Kind → Misfits
array_misfits cs any = []
array_misfits cs (list_of k) = items_misfits 0 k cs
array_misfits cs schema_type = items_misfits 0 (word_of type_word) cs
array_misfits cs (ref_or k) = array_misfits cs k
array_misfits cs k = here (expected k)

abbrev pub object_misfits : Members → Checks → Kind → Misfits
object_misfits ms cs any = []
object_misfits ms cs (map_of k) = entries_misfits k cs
object_misfits ms cs (ordered_map_of k) = entries_misfits k cs
object_misfits ms cs (entries_of k) = entries_misfits k (entry_checks cs)
object_misfits ms cs (ref_or k) = ref_or_misfits k (object_misfits ms cs k) ms cs
object_misfits ms cs (named n) = table_misfits n cs
object_misfits ms cs schema = schema_misfits ms cs
object_misfits ms cs array_items = ref_or_misfits schema (schema_misfits ms cs) ms cs
object_misfits ms cs additional_properties = ref_or_misfits schema (schema_misfits ms cs) ms cs
object_misfits ms cs security_scheme = security_scheme_misfits ms cs
object_misfits ms cs api_key = api_key_misfits ms cs
object_misfits ms cs flows = flows_misfits cs
object_misfits ms cs k = here (expected k)

unfoldable mutual
  pub checker : Data → (Kind → Misfits)
  checker null = null_misfits
  checker (boolean b) = boolean_misfits b
  checker (number n) = number_misfits n
  checker (string s) = string_misfits s
  checker (array ds) = array_misfits (item_checkers ds)
  checker (object ms) = object_misfits ms (checks ms)

  pub item_checkers : Items → List (Kind → Misfits)
  item_checkers no_items = []
  item_checkers (item d ds) = checker d ∷ item_checkers ds

  pub checks : Members → Checks
  checks no_members = []
  checks (member k d ms) = (k, (is_null d, checker d)) ∷ checks ms

-- the places of a tree that do not fit a kind, in the order of the tables, each with the cause
abbrev pub misfits : Kind → Data → Misfits
misfits k d = checker d k

-- ---- fractions

unfoldable mutual
  -- the places of the fractions of a tree
  pub fractions : Data → Misfits
  fractions null = []
  fractions (boolean b) = []
  fractions (number n) = if is_float n then here fraction else []
  fractions (string s) = []
  fractions (array ds) = items_fractions 0 ds
  fractions (object ms) = members_fractions ms

  pub items_fractions : ℕ → Items → Misfits
  items_fractions i no_items = []
  items_fractions i (item d ds) = under (at_index i) (fractions d) ++ items_fractions (suc i) ds

  pub members_fractions : Members → Misfits
  members_fractions no_members = []
  members_fractions (member name d ms) = under (at_name name) (fractions d) ++ members_fractions ms

abbrev pub is_fraction : Cause → Bool
is_fraction (absent name) = false
is_fraction (expected k) = false
is_fraction (unknown_word ws) = false
is_fraction (no_alternative ks) = false
is_fraction (unknown_name ns) = false
is_fraction fraction = true

-- misfits without the fractions among them
abbrev pub without_fractions : Misfits → Misfits
without_fractions [] = []
without_fractions (m ∷ ms) = if is_fraction m.1 then without_fractions ms else m ∷ without_fractions ms

-- why a tree is refused as a document of a kind: the places that do not fit, and then the fractions. A fraction where another tree is expected is
-- told once, as a fraction.
abbrev pub misfits_and_fractions : Kind → Data → Misfits
misfits_and_fractions k d = without_fractions (misfits k d) ++ fractions d
