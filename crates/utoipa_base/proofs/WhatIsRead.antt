-- What is read is in normal form, and written as null only where null was read.
use Rattle.std.proofs.Common.{◌≡◌, ℕ, pos, negsuc, List, [], ◌∷◌, Bool, true, false, not, cond, nat_cmp, codes, Option, Some, None, IfSome, option_map, refl, ap, ◌∙◌, true≢false}
use Rattle.std.proofs.lemmas.Option.{IfSome_then}
use Rattle.std.specs.List.{list_any}
use Rattle.std.specs.Cmp.Lexicographic.{slice_cmp}
use Rattle.serde_json.specs.Data.{Num, unsigned, negative, float, Data, null, boolean, number, string, array, object, Items, no_items, item, Members, no_members, member}
use Rattle.serde_json.specs.Find.{as_integer, as_u64}
use Rattle.utoipa_base.specs.Kinds.{ObjectType, reference_object, one_of_schema, all_of_schema, any_of_schema, array_schema, object_schema, type_word, known_format, Kind, text, flag, whole, numeral, any, word_of, version, list_of, map_of, ordered_map_of, entries_of, ref_or, named, schema, schema_type, schema_format, array_items, additional_properties, security_scheme, api_key, flows, Mark, required, optional, or_null, defaulted, Row}
use Rattle.utoipa_base.specs.Words.{is_word}
use Rattle.utoipa_base.specs.Version.{read_version}
use Rattle.utoipa_base.specs.Choices.{chosen, scheme_types, api_key_places, flow_keys, schema_keywords}
use Rattle.utoipa_base.specs.Docs.{Doc, whole_doc, word_doc, types_doc, none_doc, some_doc, ref_doc, own_doc, schema_doc, tagged_doc, flow_doc, list_doc, map_doc, ordered_map_doc, entries_doc, table_doc, Docs, doc, Entries, entry}
use Rattle.utoipa_base.specs.Tables.{table, has_extensions}
use Rattle.utoipa_base.specs.Extensions.{is_extension, extension_members, extensions_of, some_if_any}
use Rattle.utoipa_base.specs.Reading.{both, both_entries, only_if, Part, part_is_null, part_reads, Parts, part_name, named_part, part, entry_parts, is_null, empty_doc, fits, read_rows, read_table, read_items, read_entries, is_named, read_schema, read_ref_or, text_at, read_alternative, read_tagged, read_api_key, read_scheme, first_that_fits, read_flow, read_flows, read_null, read_boolean, numeral_doc, read_number, read_word, read_string, read_array, read_object, reader, item_readers, parts, read}
use Rattle.utoipa_base.specs.Writing.{write}
use Rattle.utoipa_base.specs.ByName.{by_name}
use Rattle.utoipa_base.specs.NormalForm.{normal_form, normal_docs, normal_entries, normal_some, normal_extensions}
use Rattle.utoipa_base.proofs.ByName.{by_name-normal}
use Rattle.utoipa_base.proofs.Results.{if_is, if_map, if_made, if_then, if_else, if_only, by_order}
use Rattle.utoipa_base.proofs.Twice.{uint_written, format_written, with_null, twice_uint, twice_format}

-- ---- what stays as it was read

-- in normal form
abbrev IsNormal : Doc → Type 0
IsNormal d = normal_form d ≡ d

-- the documents of a list are in normal form
abbrev AreNormal : Docs → Type 0
AreNormal ds = normal_docs ds ≡ ds

-- the entries of a map are in normal form
abbrev EntriesNormal : Entries → Type 0
EntriesNormal es = normal_entries es ≡ es

-- in normal form, and written as null only where null was read
abbrev Stays : Bool → Doc → Type 0
Stays b d = (normal_form d ≡ d) × (b ≡ false → is_null (write d) ≡ false)

-- what a reader reads stays, by whether its tree is null
abbrev ReadsNormal : Bool → (Kind → Option Doc) → Type 0
ReadsNormal b f = (k : Kind) → IfSome (f k) (Stays b)

-- what the items' readers read is in normal form
abbrev ItemsReadNormal : List (Kind → Option Doc) → Type 0
ItemsReadNormal [] = Unit {0}
ItemsReadNormal (r ∷ rs) = ((k : Kind) → IfSome (r k) IsNormal) × ItemsReadNormal rs

-- what a member's reader reads stays
abbrev PartReadsNormal : Part → Type 0
PartReadsNormal m = ReadsNormal (part_is_null m) (part_reads m)

-- what the members' readers read stays
abbrev PartsReadNormal : Parts → Type 0
PartsReadNormal [] = Unit {0}
PartsReadNormal (p ∷ ps) = PartReadsNormal (named_part p) × PartsReadNormal ps

-- what stays is in normal form
only_normal : (b : Bool) (o : Option Doc) → IfSome o (Stays b) → IfSome o IsNormal
only_normal b o h = IfSome_then o h (λ d p. p.0)

-- ---- trees that are neither arrays nor objects

-- what stands in the place of a reference
own_stays : (b : Bool) (o : Option Doc) → IfSome o (Stays b) → IfSome (option_map own_doc o) (Stays b)
unfolding normal_form write
own_stays b o h = if_map (Stays b) (Stays b) own_doc (λ d p. (ap own_doc p.0, p.1)) o h

-- null
null_stays : ReadsNormal true read_null
unfolding normal_form
null_stays any = (refl, λ n. absurd (true≢false n))
null_stays schema_type = (refl, λ n. absurd (true≢false n))
null_stays (ref_or k) = own_stays true (read_null k) (null_stays k)
null_stays k = tt

-- true or false
boolean_stays : (b : Bool) → ReadsNormal false (read_boolean b)
unfolding normal_form write
boolean_stays b flag = (refl, λ n. refl)
boolean_stays b any = (refl, λ n. refl)
boolean_stays b additional_properties = (refl, λ n. refl)
boolean_stays true array_items = tt
boolean_stays false array_items = (refl, λ n. refl)
boolean_stays b (ref_or k) = own_stays false (read_boolean b k) (boolean_stays b k)
boolean_stays b k = tt

-- a `Number`
numeral_stays : (n : Num) → IfSome (option_map numeral_doc (as_integer n)) (Stays false)
unfolding normal_form write
numeral_stays (unsigned n) = (twice_uint n, λ h. uint_written n)
numeral_stays (negative (pos n)) = (twice_uint n, λ h. uint_written n)
numeral_stays (negative (negsuc n)) = (refl, λ h. refl)
numeral_stays (float x) = tt

-- a number
number_stays : (n : Num) → ReadsNormal false (read_number n)
unfolding normal_form write
number_stays n whole = if_made (Stays false) whole_doc (λ m. (refl, λ h. refl)) (as_u64 n)
number_stays n numeral = numeral_stays n
number_stays n any = (refl, λ h. refl)
number_stays n (ref_or k) = own_stays false (read_number n k) (number_stays n k)
number_stays n k = tt

-- a word
word_stays : (b : Bool) (s : List ℕ) → IfSome (read_word b s) (Stays false)
unfolding normal_form write
word_stays true s = (refl, λ h. refl)
word_stays false s = tt

-- a text
string_stays : (s : List ℕ) → ReadsNormal false (read_string s)
unfolding normal_form write
string_stays s text = (refl, λ h. refl)
string_stays s any = (refl, λ h. refl)
string_stays s (word_of v) = word_stays (is_word v s) s
string_stays s version = if_made (Stays false) word_doc (λ x. (refl, λ h. refl)) (read_version s)
string_stays s schema_type = word_stays (is_word type_word s) s
string_stays s schema_format = (twice_format (is_word known_format s) s refl, λ h. format_written (is_word known_format s) s)
string_stays s (ref_or k) = own_stays false (read_string s k) (string_stays s k)
string_stays s k = tt

-- ---- lists and maps

-- one more document of a list
both_normal : (o : Option Doc) (p : Option Docs) → IfSome o IsNormal → IfSome p AreNormal → IfSome (both o p) AreNormal
unfolding normal_docs
both_normal None p g h = tt
both_normal (Some d) None g h = tt
both_normal (Some d) (Some ds) g h = ap (λ x. doc x (normal_docs ds)) g ∙ ap (doc d) h

-- one more entry of a map
both_entries_normal : (k : List ℕ) (o : Option Doc) (p : Option Entries) → IfSome o IsNormal → IfSome p EntriesNormal → IfSome (both_entries k o p) EntriesNormal
unfolding normal_entries
both_entries_normal k None p g h = tt
both_entries_normal k (Some d) None g h = tt
both_entries_normal k (Some d) (Some es) g h = ap (λ x. entry k x (normal_entries es)) g ∙ ap (entry k d) h

-- the items of an array
items_normal : (k : Kind) (rs : List (Kind → Option Doc)) → ItemsReadNormal rs → IfSome (read_items k rs) AreNormal
unfolding normal_docs
items_normal k [] h = refl
items_normal k (r ∷ rs) h = both_normal (r k) (read_items k rs) (h.0 k) (items_normal k rs h.1)

-- the members of a map
entries_normal : (k : Kind) (ps : Parts) → PartsReadNormal ps → IfSome (read_entries k ps) EntriesNormal
unfolding normal_entries
entries_normal k [] h = refl
entries_normal k (p ∷ ps) h =
    let m = named_part p in
    both_entries_normal (part_name p) (part_reads m k) (read_entries k ps) (only_normal (part_is_null m) (part_reads m k) (h.0 k)) (entries_normal k ps h.1)

-- the members that are no extensions, with one more
kept_parts : (b : Bool) (p : List ℕ × Part) (ps : Parts) → PartReadsNormal (named_part p) → PartsReadNormal ps → PartsReadNormal (cond b ps (p ∷ ps))
kept_parts true p ps g h = h
kept_parts false p ps g h = (g, h)

-- the members that are no extensions
entry_parts_normal : (ps : Parts) → PartsReadNormal ps → PartsReadNormal (entry_parts ps)
entry_parts_normal [] h = tt
entry_parts_normal (p ∷ ps) h = kept_parts (is_extension (part_name p)) p (entry_parts ps) h.0 (entry_parts_normal ps h.1)

-- ---- rows

-- the member at a name
part_normal : (name : List ℕ) (ps : Parts) → PartsReadNormal ps → IfSome (part name ps) PartReadsNormal
part_normal name [] h = tt
part_normal name (p ∷ ps) h =
    by_order (λ o. IfSome o PartReadsNormal) (slice_cmp nat_cmp name (part_name p)) (part name ps) (Some (named_part p)) (part name ps) (part_normal name ps h.1) h.0 (part_normal name ps h.1)

-- what an absent member is
empty_normal : (k : Kind) → IsNormal (empty_doc k)
unfolding normal_form normal_docs normal_entries
empty_normal text = refl
empty_normal flag = refl
empty_normal (list_of k) = refl
empty_normal (map_of k) = refl
empty_normal (ordered_map_of k) = refl
empty_normal schema_type = refl
empty_normal k = refl

-- a field that may be absent, by whether its member is null
optional_normal : (b : Bool) (o : Option Doc) → IfSome o (Stays b) → IfSome (cond b (Some none_doc) (option_map some_doc o)) IsNormal
unfolding normal_form
optional_normal true o h = refl
optional_normal false o h = if_map (Stays false) IsNormal some_doc (λ d p. ap (λ b. normal_some b (normal_form d)) (p.1 refl) ∙ ap some_doc p.0) o h

-- the field of a row
field_normal : (m : Mark) (k : Kind) (o : Option Part) → IfSome o PartReadsNormal → IfSome (fits m k o) IsNormal
unfolding normal_form
field_normal required k None h = tt
field_normal required k (Some p) h = only_normal (part_is_null p) (part_reads p k) (h k)
field_normal optional k None h = refl
field_normal optional k (Some p) h = optional_normal (part_is_null p) (part_reads p k) (h k)
field_normal or_null k None h = refl
field_normal or_null k (Some p) h = optional_normal (part_is_null p) (part_reads p k) (h k)
field_normal defaulted k None h = empty_normal k
field_normal defaulted k (Some p) h = only_normal (part_is_null p) (part_reads p k) (h k)

-- the fields of a table's rows
rows_normal : (rs : List Row) (ps : Parts) → PartsReadNormal ps → IfSome (read_rows rs ps) AreNormal
unfolding normal_docs
rows_normal [] ps h = refl
rows_normal (r ∷ rs) ps h = both_normal (fits r.mark r.kind (part r.name ps)) (read_rows rs ps) (field_normal r.mark r.kind (part r.name ps) (part_normal r.name ps h)) (rows_normal rs ps h)

-- the members, where there is one
some_if_any_normal : (ms : Members) → normal_extensions (some_if_any ms) ≡ some_if_any ms
some_if_any_normal no_members = refl
some_if_any_normal (member k d ms) = refl

-- the extensions of an object
extensions_normal : (kept : Bool) (ms : Members) → normal_extensions (extensions_of kept ms) ≡ extensions_of kept ms
extensions_normal true ms = some_if_any_normal (extension_members ms)
extensions_normal false ms = refl

-- an object of a type
table_stays : (n : ObjectType) (ms : Members) (ps : Parts) → PartsReadNormal ps → IfSome (read_table n ms ps) (Stays false)
unfolding normal_form write
table_stays n ms ps h =
    let e = extensions_of (has_extensions n) ms in
    if_map AreNormal (Stays false) (λ ds. table_doc n ds e) (λ ds p. (ap (λ xs. table_doc n xs (normal_extensions e)) p ∙ ap (table_doc n ds) (extensions_normal (has_extensions n) ms), λ q. refl))
    (read_rows (table n) ps) (rows_normal (table n) ps h)

-- ---- choices

-- a schema
schema_stays : (ms : Members) (ps : Parts) → PartsReadNormal ps → IfSome (read_schema ms ps) (Stays false)
unfolding normal_form write
schema_stays ms ps h =
    let typed = is_named (codes "type") ms in
    let bare = not (list_any (λ name. is_named name ms) schema_keywords) in
    if_map (Stays false) (Stays false) schema_doc (λ d p. (ap schema_doc p.0, p.1)) _
    (if_else (Stays false) _ _ (table_stays one_of_schema ms ps h)
    (if_else (Stays false) _ _ (table_stays all_of_schema ms ps h)
    (if_else (Stays false) _ _ (table_stays any_of_schema ms ps h)
    (if_else (Stays false) _ _ (table_stays array_schema ms ps h)
    (if_else (Stays false) (only_if typed (read_table object_schema ms ps)) (only_if bare (read_table object_schema ms ps)) (if_only (Stays false) typed _ (table_stays object_schema ms ps h))
    (if_only (Stays false) bare _ (table_stays object_schema ms ps h)))))))

-- a reference, or else what the place holds
ref_or_stays : (k : Kind) (own : Option Doc) (ms : Members) (ps : Parts) → PartsReadNormal ps → IfSome own (Stays false) → IfSome (read_ref_or k own ms ps) (Stays false)
unfolding normal_form write
ref_or_stays k own ms ps h o =
    if_else (Stays false) _ _ (if_map (Stays false) (Stays false) (ref_doc k) (λ d p. (ap (ref_doc k) p.0, p.1)) (read_table reference_object ms ps) (table_stays reference_object ms ps h)) (own_stays false own o)

-- an alternative that is a type
alternative_stays : (ms : Members) (ps : Parts) → PartsReadNormal ps → ReadsNormal false (read_alternative ms ps)
alternative_stays ms ps h (named n) = table_stays n ms ps h
alternative_stays ms ps h k = tt

-- the alternative that a member chooses
tagged_stays : (name : List ℕ) (choices : List (List ℕ × Kind)) (f : Kind → Option Doc) (ms : Members) → ReadsNormal false f → IfSome (read_tagged name choices f ms) (Stays false)
unfolding normal_form write
tagged_stays name choices f ms h =
    if_then (Stays false) _
    (λ word. if_then (Stays false) _ (λ k. if_map (Stays false) (Stays false) (tagged_doc name word) (λ d p. (ap (tagged_doc name word) p.0, λ q. with_null name (string word) (write d) ∙ p.1 q)) (f k) (h k)) (chosen word choices))
    (text_at name ms)

-- an API key
api_key_stays : (ms : Members) (ps : Parts) → PartsReadNormal ps → IfSome (read_api_key ms ps) (Stays false)
api_key_stays ms ps h = tagged_stays (codes "in") api_key_places (read_alternative ms ps) ms (alternative_stays ms ps h)

-- an alternative of a security scheme
scheme_stays : (ms : Members) (ps : Parts) → PartsReadNormal ps → ReadsNormal false (read_scheme ms ps)
scheme_stays ms ps h api_key = api_key_stays ms ps h
scheme_stays ms ps h k = alternative_stays ms ps h k

-- the first type that fits
first_stays : (b : Bool) (cs : List (List ℕ × ObjectType)) (f : Kind → Option Doc) → ReadsNormal b f → IfSome (first_that_fits cs f) (Stays b)
first_stays b [] f h = tt
first_stays b (c ∷ cs) f h = if_else (Stays b) (f (named c.1)) (first_that_fits cs f) (h (named c.1)) (first_stays b cs f h)

-- a flow
flow_normal : (b : Bool) (o : Option ObjectType) (f : Kind → Option Doc) → ReadsNormal b f → IfSome (read_flow o f) IsNormal
unfolding normal_form
flow_normal b (Some n) f h = if_map (Stays b) IsNormal flow_doc (λ d p. ap flow_doc p.0) (f (named n)) (h (named n))
flow_normal b None f h = if_map (Stays b) IsNormal flow_doc (λ d p. ap flow_doc p.0) (first_that_fits flow_keys f) (first_stays b flow_keys f h)

-- the flows of an object
flows_normal : (ps : Parts) → PartsReadNormal ps → IfSome (read_flows ps) EntriesNormal
unfolding normal_entries
flows_normal [] h = refl
flows_normal (p ∷ ps) h =
    let m = named_part p in
    let n = chosen (part_name p) flow_keys in
    both_entries_normal (part_name p) (read_flow n (part_reads m)) (read_flows ps) (flow_normal (part_is_null m) n (part_reads m) h.0) (flows_normal ps h.1)

-- ---- arrays and objects

-- an array
array_stays : (ds : Items) (rs : List (Kind → Option Doc)) → ItemsReadNormal rs → ReadsNormal false (read_array ds rs)
unfolding normal_form write
array_stays ds rs h any = (refl, λ n. refl)
array_stays ds rs h (list_of k) = if_map AreNormal (Stays false) list_doc (λ x p. (ap list_doc p, λ n. refl)) (read_items k rs) (items_normal k rs h)
array_stays ds rs h schema_type =
    if_map AreNormal (Stays false) (λ ws. types_doc (list_doc ws)) (λ x p. (ap (λ ws. types_doc (list_doc ws)) p, λ n. refl)) (read_items (word_of type_word) rs) (items_normal (word_of type_word) rs h)
array_stays ds rs h (ref_or k) = own_stays false (read_array ds rs k) (array_stays ds rs h k)
array_stays ds rs h k = tt

-- an object
object_stays : (ms : Members) (ps : Parts) → PartsReadNormal ps → ReadsNormal false (read_object ms ps)
unfolding normal_form write
object_stays ms ps h any = (refl, λ n. refl)
object_stays ms ps h (map_of k) = if_map EntriesNormal (Stays false) map_doc (λ x p. (ap map_doc p, λ n. refl)) (read_entries k ps) (entries_normal k ps h)
object_stays ms ps h (ordered_map_of k) =
    if_map EntriesNormal (Stays false) (λ es. ordered_map_doc (by_name es)) (λ es p. (ap ordered_map_doc (by_name-normal es ∙ ap by_name p), λ n. refl)) (read_entries k ps) (entries_normal k ps h)
object_stays ms ps h (entries_of k) =
    let e = extensions_of true ms in
    if_map EntriesNormal (Stays false) (λ es. entries_doc es e) (λ es p. (ap (λ xs. entries_doc xs (normal_extensions e)) p ∙ ap (entries_doc es) (extensions_normal true ms), λ n. refl))
    (read_entries k (entry_parts ps)) (entries_normal k (entry_parts ps) (entry_parts_normal ps h))
object_stays ms ps h (ref_or k) = ref_or_stays k (read_object ms ps k) ms ps h (object_stays ms ps h k)
object_stays ms ps h (named n) = table_stays n ms ps h
object_stays ms ps h schema = schema_stays ms ps h
object_stays ms ps h array_items = ref_or_stays schema (read_schema ms ps) ms ps h (schema_stays ms ps h)
object_stays ms ps h additional_properties = ref_or_stays schema (read_schema ms ps) ms ps h (schema_stays ms ps h)
object_stays ms ps h security_scheme = tagged_stays (codes "type") scheme_types (read_scheme ms ps) ms (scheme_stays ms ps h)
object_stays ms ps h api_key = api_key_stays ms ps h
object_stays ms ps h flows = if_map EntriesNormal (Stays false) map_doc (λ x p. (ap map_doc p, λ n. refl)) (read_flows ps) (flows_normal ps h)
object_stays ms ps h k = tt

mutual
  unfolding reader item_readers parts

  -- what is read of a tree
  tree_stays : (t : Data) → ReadsNormal (is_null t) (reader t)
  tree_stays null = null_stays
  tree_stays (boolean b) = boolean_stays b
  tree_stays (number n) = number_stays n
  tree_stays (string s) = string_stays s
  tree_stays (array ds) = array_stays ds (item_readers ds) (item_readers_normal ds)
  tree_stays (object ms) = object_stays ms (parts ms) (parts_normal ms)

  -- what is read of items
  item_readers_normal : (ds : Items) → ItemsReadNormal (item_readers ds)
  item_readers_normal no_items = tt
  item_readers_normal (item d ds) = (λ k. only_normal (is_null d) (reader d k) (tree_stays d k), item_readers_normal ds)

  -- what is read of members
  parts_normal : (ms : Members) → PartsReadNormal (parts ms)
  parts_normal no_members = tt
  parts_normal (member k d ms) = (tree_stays d, parts_normal ms)

-- what is read is in normal form
pub read_normal : (k : Kind) (t : Data) (d : Doc) → read k t ≡ Some d → normal_form d ≡ d
read_normal k t d e = (if_is (Stays (is_null t)) (reader t k) d (tree_stays t k) e).0
