-- What is read of a tree with no fraction has none, and what has none is written with none.
use Rattle.std.proofs.Common.{◌≡◌, ℕ, ◌^◌, nat_lt, ℤ, pos, negsuc, List, [], ◌∷◌, Bool, true, false, ◌||◌, cond, nat_cmp, not, codes, Option, Some, None, IfSome, option_map, refl, ap, ◌∙◌}
use Rattle.std.specs.List.{list_any}
use Rattle.std.specs.Cmp.Lexicographic.{slice_cmp}
use Rattle.serde_json.specs.Data.{Num, Data, null, boolean, number, string, array, object, Items, no_items, item, Members, no_members, member, put}
use Rattle.serde_json.specs.Find.{as_integer, as_u64, of_integer, is_float}
use Rattle.serde_json.specs.Written.{has_float, items_have_float, members_have_float}
use Rattle.utoipa_base.specs.Kinds.{ObjectType, reference_object, one_of_schema, all_of_schema, any_of_schema, array_schema, object_schema, type_word, known_format, Kind, text, flag, whole, numeral, any, word_of, version, list_of, map_of, ordered_map_of, entries_of, ref_or, named, schema, schema_type, schema_format, array_items, additional_properties, security_scheme, api_key, flows, Mark, required, optional, or_null, defaulted, Row}
use Rattle.utoipa_base.specs.Words.{is_word}
use Rattle.utoipa_base.specs.Version.{read_version}
use Rattle.utoipa_base.specs.Choices.{chosen, scheme_types, api_key_places, flow_keys, schema_keywords}
use Rattle.utoipa_base.specs.Docs.{Doc, text_doc, flag_doc, whole_doc, int_doc, uint_doc, tree_doc, word_doc, custom_doc, types_doc, any_value_doc, none_doc, some_doc, ref_doc, own_doc, schema_doc, tagged_doc, flow_doc, list_doc, map_doc, ordered_map_doc, entries_doc, table_doc, Docs, no_docs, doc, Entries, no_entries, entry}
use Rattle.utoipa_base.specs.Tables.{table, has_extensions}
use Rattle.utoipa_base.specs.Extensions.{is_extension, extension_members, extensions_of, some_if_any, members_or_none}
use Rattle.utoipa_base.specs.Reading.{both, both_entries, only_if, Part, part_is_null, part_reads, Parts, part_name, named_part, part, entry_parts, empty_doc, fits, read_rows, read_table, read_items, read_entries, is_named, read_schema, read_ref_or, text_at, read_alternative, read_tagged, read_api_key, read_scheme, first_that_fits, read_flow, read_flows, read_null, read_boolean, numeral_doc, read_number, read_word, read_format, read_string, read_array, read_object, reader, item_readers, parts, read}
use Rattle.utoipa_base.specs.Writing.{write, write_items, write_entries, put_written, write_rows, left_out, put_unless, merge_member, merge_members, with_member}
use Rattle.utoipa_base.specs.ByName.{put_entry, put_entries, by_name}
use Rattle.utoipa_base.specs.WellFormed.{has_fraction, docs_have_fraction, entries_have_fraction, IsPlain}
use Rattle.utoipa_base.proofs.BoolFacts.{or_first, or_second}
use Rattle.utoipa_base.proofs.Results.{if_is, if_map, if_made, if_then, if_else, if_only, by_order}

-- ---- what is plain

-- the documents of a list are plain
abbrev ArePlain : Docs → Type 0
ArePlain ds = docs_have_fraction ds ≡ false

-- the entries of a map are plain
abbrev EntriesPlain : Entries → Type 0
EntriesPlain es = entries_have_fraction es ≡ false

-- the members have no fraction
abbrev MembersPlain : Members → Type 0
MembersPlain ms = members_have_float ms ≡ false

-- what a reader reads is plain
abbrev ReadsPlain : (Kind → Option Doc) → Type 0
ReadsPlain f = (k : Kind) → IfSome (f k) IsPlain

-- what the items' readers read is plain
abbrev ItemsPlain : List (Kind → Option Doc) → Type 0
ItemsPlain [] = Unit {0}
ItemsPlain (r ∷ rs) = ReadsPlain r × ItemsPlain rs

-- what the members' readers read is plain
abbrev PartsPlain : Parts → Type 0
PartsPlain [] = Unit {0}
PartsPlain (p ∷ ps) = ReadsPlain (part_reads (named_part p)) × PartsPlain ps

-- neither test holds
or_false : (a b : Bool) → a ≡ false → b ≡ false → (a || b) ≡ false
or_false a b p q = ap (λ x. x || b) p ∙ q

-- ---- trees that are neither arrays nor objects

-- what stands in the place of a reference
own_plain : (o : Option Doc) → IfSome o IsPlain → IfSome (option_map own_doc o) IsPlain
unfolding has_fraction
own_plain o h = if_map IsPlain IsPlain own_doc (λ x p. p) o h

-- null
null_plain : ReadsPlain read_null
unfolding has_fraction
null_plain any = refl
null_plain schema_type = refl
null_plain (ref_or k) = own_plain (read_null k) (null_plain k)
null_plain k = tt

-- true or false
boolean_plain : (b : Bool) → ReadsPlain (read_boolean b)
unfolding has_fraction
boolean_plain b flag = refl
boolean_plain b any = refl
boolean_plain b additional_properties = refl
boolean_plain true array_items = tt
boolean_plain false array_items = refl
boolean_plain b (ref_or k) = own_plain (read_boolean b k) (boolean_plain b k)
boolean_plain b k = tt

-- an unsigned number, by whether it is an i64
uint_plain : (b : Bool) (n : ℕ) → IsPlain (cond b (int_doc (pos n)) (uint_doc n))
unfolding has_fraction
uint_plain true n = refl
uint_plain false n = refl

-- an Int or a UInt
int_plain : (z : ℤ) → IsPlain (numeral_doc z)
unfolding has_fraction
int_plain (pos n) = uint_plain (nat_lt n (2 ^ 63)) n
int_plain (negsuc n) = refl

-- a number
number_plain : (n : Num) → is_float n ≡ false → ReadsPlain (read_number n)
unfolding has_fraction
number_plain n h whole = if_made IsPlain whole_doc (λ m. refl) (as_u64 n)
number_plain n h numeral = if_made IsPlain numeral_doc int_plain (as_integer n)
number_plain n h any = h
number_plain n h (ref_or k) = own_plain (read_number n k) (number_plain n h k)
number_plain n h k = tt

-- a word
word_plain : (b : Bool) (s : List ℕ) → IfSome (read_word b s) IsPlain
unfolding has_fraction
word_plain true s = refl
word_plain false s = tt

-- a format
format_plain : (b : Bool) (s : List ℕ) → IsPlain (read_format b s)
unfolding has_fraction
format_plain true s = refl
format_plain false s = refl

-- a text
string_plain : (s : List ℕ) → ReadsPlain (read_string s)
unfolding has_fraction
string_plain s text = refl
string_plain s any = refl
string_plain s (word_of v) = word_plain (is_word v s) s
string_plain s version = if_made IsPlain word_doc (λ x. refl) (read_version s)
string_plain s schema_type = word_plain (is_word type_word s) s
string_plain s schema_format = format_plain (is_word known_format s) s
string_plain s (ref_or k) = own_plain (read_string s k) (string_plain s k)
string_plain s k = tt

-- ---- lists and maps

-- one more document of a list
both_plain : (o : Option Doc) (p : Option Docs) → IfSome o IsPlain → IfSome p ArePlain → IfSome (both o p) ArePlain
unfolding docs_have_fraction
both_plain None p g h = tt
both_plain (Some d) None g h = tt
both_plain (Some d) (Some ds) g h = or_false _ _ g h

-- one more entry of a map
both_entries_plain : (k : List ℕ) (o : Option Doc) (p : Option Entries) → IfSome o IsPlain → IfSome p EntriesPlain → IfSome (both_entries k o p) EntriesPlain
unfolding entries_have_fraction
both_entries_plain k None p g h = tt
both_entries_plain k (Some d) None g h = tt
both_entries_plain k (Some d) (Some es) g h = or_false _ _ g h

-- the items of an array
items_plain : (k : Kind) (rs : List (Kind → Option Doc)) → ItemsPlain rs → IfSome (read_items k rs) ArePlain
unfolding docs_have_fraction
items_plain k [] h = refl
items_plain k (r ∷ rs) h = both_plain (r k) (read_items k rs) (h.0 k) (items_plain k rs h.1)

-- the members of a map
entries_plain : (k : Kind) (ps : Parts) → PartsPlain ps → IfSome (read_entries k ps) EntriesPlain
unfolding entries_have_fraction
entries_plain k [] h = refl
entries_plain k (p ∷ ps) h = both_entries_plain (part_name p) (part_reads (named_part p) k) (read_entries k ps) (h.0 k) (entries_plain k ps h.1)

-- entries, with one put among them
put_entry_plain : (k : List ℕ) (d : Doc) (es : Entries) → IsPlain d → EntriesPlain es → EntriesPlain (put_entry k d es)
unfolding entries_have_fraction
put_entry_plain k d no_entries g h = or_false _ _ g refl
put_entry_plain k d (entry l e es) g h =
    by_order EntriesPlain (slice_cmp nat_cmp k l) (entry k d (entry l e es)) (entry l d es) (entry l e (put_entry k d es))
    (or_false _ _ g h) (or_false _ _ g (or_second _ _ h)) (or_false _ _ (or_first _ _ h) (put_entry_plain k d es g (or_second _ _ h)))

-- entries, with others put among them
put_entries_plain : (es fs : Entries) → EntriesPlain es → EntriesPlain fs → EntriesPlain (put_entries es fs)
unfolding entries_have_fraction
put_entries_plain no_entries fs g h = h
put_entries_plain (entry k d es) fs g h = put_entries_plain es (put_entry k d fs) (or_second _ _ g) (put_entry_plain k d fs (or_first _ _ g) h)

-- the members that are no extensions, with one more
kept_parts : (b : Bool) (p : List ℕ × Part) (ps : Parts) → ReadsPlain (part_reads (named_part p)) → PartsPlain ps → PartsPlain (cond b ps (p ∷ ps))
kept_parts true p ps g h = h
kept_parts false p ps g h = (g, h)

-- the members that are no extensions
entry_parts_plain : (ps : Parts) → PartsPlain ps → PartsPlain (entry_parts ps)
entry_parts_plain [] h = tt
entry_parts_plain (p ∷ ps) h = kept_parts (is_extension (part_name p)) p (entry_parts ps) h.0 (entry_parts_plain ps h.1)

-- ---- rows

-- the member at a name
part_plain : (name : List ℕ) (ps : Parts) → PartsPlain ps → IfSome (part name ps) (λ m. ReadsPlain (part_reads m))
part_plain name [] h = tt
part_plain name (p ∷ ps) h =
    by_order (λ o. IfSome o (λ m. ReadsPlain (part_reads m))) (slice_cmp nat_cmp name (part_name p)) (part name ps) (Some (named_part p)) (part name ps) (part_plain name ps h.1) h.0 (part_plain name ps h.1)

-- what an absent member is
empty_plain : (k : Kind) → IsPlain (empty_doc k)
unfolding has_fraction docs_have_fraction entries_have_fraction
empty_plain text = refl
empty_plain flag = refl
empty_plain (list_of k) = refl
empty_plain (map_of k) = refl
empty_plain (ordered_map_of k) = refl
empty_plain schema_type = refl
empty_plain k = refl

-- a field that may be absent
some_plain : (o : Option Doc) → IfSome o IsPlain → IfSome (option_map some_doc o) IsPlain
unfolding has_fraction
some_plain o h = if_map IsPlain IsPlain some_doc (λ x p. p) o h

-- a field that may be absent, by whether its member is null
optional_plain : (b : Bool) (o : Option Doc) → IfSome o IsPlain → IfSome (cond b (Some none_doc) (option_map some_doc o)) IsPlain
unfolding has_fraction
optional_plain true o h = refl
optional_plain false o h = some_plain o h

-- the field of a row
field_plain : (m : Mark) (k : Kind) (o : Option Part) → IfSome o (λ p. ReadsPlain (part_reads p)) → IfSome (fits m k o) IsPlain
unfolding has_fraction
field_plain required k None h = tt
field_plain required k (Some p) h = h k
field_plain optional k None h = refl
field_plain optional k (Some p) h = optional_plain (part_is_null p) (part_reads p k) (h k)
field_plain or_null k None h = refl
field_plain or_null k (Some p) h = optional_plain (part_is_null p) (part_reads p k) (h k)
field_plain defaulted k None h = empty_plain k
field_plain defaulted k (Some p) h = h k

-- the fields of a table's rows
rows_plain : (rs : List Row) (ps : Parts) → PartsPlain ps → IfSome (read_rows rs ps) ArePlain
unfolding docs_have_fraction
rows_plain [] ps h = refl
rows_plain (r ∷ rs) ps h = both_plain (fits r.mark r.kind (part r.name ps)) (read_rows rs ps) (field_plain r.mark r.kind (part r.name ps) (part_plain r.name ps h)) (rows_plain rs ps h)

-- the extensions among the members, with one more member
kept_plain : (b : Bool) (k : List ℕ) (d : Data) (ms : Members) → has_float d ≡ false → MembersPlain ms → MembersPlain (cond b (member k d ms) ms)
kept_plain true k d ms g h = or_false _ _ g h
kept_plain false k d ms g h = h

-- the extensions among the members
extension_members_plain : (ms : Members) → MembersPlain ms → MembersPlain (extension_members ms)
extension_members_plain no_members h = refl
extension_members_plain (member k d ms) h = kept_plain (is_extension k) k d (extension_members ms) (or_first _ _ h) (extension_members_plain ms (or_second _ _ h))

-- the members, where there is one
some_if_any_plain : (ms : Members) → MembersPlain ms → MembersPlain (members_or_none (some_if_any ms))
some_if_any_plain no_members h = refl
some_if_any_plain (member k d ms) h = h

-- the extensions of an object
extensions_plain : (kept : Bool) (ms : Members) → MembersPlain ms → MembersPlain (members_or_none (extensions_of kept ms))
extensions_plain true ms h = some_if_any_plain (extension_members ms) (extension_members_plain ms h)
extensions_plain false ms h = refl

-- an object of a type
table_plain : (n : ObjectType) (ms : Members) (ps : Parts) → MembersPlain ms → PartsPlain ps → IfSome (read_table n ms ps) IsPlain
unfolding has_fraction
table_plain n ms ps g h =
    if_map ArePlain IsPlain (λ ds. table_doc n ds (extensions_of (has_extensions n) ms)) (λ ds p. or_false _ _ p (extensions_plain (has_extensions n) ms g)) (read_rows (table n) ps) (rows_plain (table n) ps h)

-- ---- choices

-- a schema
schema_plain : (ms : Members) (ps : Parts) → MembersPlain ms → PartsPlain ps → IfSome (read_schema ms ps) IsPlain
unfolding has_fraction
schema_plain ms ps g h =
    let typed = is_named (codes "type") ms in
    let bare = not (list_any (λ name. is_named name ms) schema_keywords) in
    if_map IsPlain IsPlain schema_doc (λ x p. p) _
    (if_else IsPlain _ _ (table_plain one_of_schema ms ps g h)
    (if_else IsPlain _ _ (table_plain all_of_schema ms ps g h)
    (if_else IsPlain _ _ (table_plain any_of_schema ms ps g h)
    (if_else IsPlain _ _ (table_plain array_schema ms ps g h)
    (if_else IsPlain (only_if typed (read_table object_schema ms ps)) (only_if bare (read_table object_schema ms ps)) (if_only IsPlain typed _ (table_plain object_schema ms ps g h))
    (if_only IsPlain bare _ (table_plain object_schema ms ps g h)))))))

-- a reference, or else what the place holds
ref_or_plain : (k : Kind) (own : Option Doc) (ms : Members) (ps : Parts) → MembersPlain ms → PartsPlain ps → IfSome own IsPlain → IfSome (read_ref_or k own ms ps) IsPlain
unfolding has_fraction
ref_or_plain k own ms ps g h o =
    if_else IsPlain _ _ (if_map IsPlain IsPlain (ref_doc k) (λ x p. p) (read_table reference_object ms ps) (table_plain reference_object ms ps g h)) (own_plain own o)

-- an alternative that is a type
alternative_plain : (ms : Members) (ps : Parts) → MembersPlain ms → PartsPlain ps → ReadsPlain (read_alternative ms ps)
alternative_plain ms ps g h (named n) = table_plain n ms ps g h
alternative_plain ms ps g h k = tt

-- the alternative that a member chooses
tagged_plain : (name : List ℕ) (choices : List (List ℕ × Kind)) (f : Kind → Option Doc) (ms : Members) → ReadsPlain f → IfSome (read_tagged name choices f ms) IsPlain
unfolding has_fraction
tagged_plain name choices f ms h =
    if_then IsPlain _ (λ word. if_then IsPlain _ (λ k. if_map IsPlain IsPlain (tagged_doc name word) (λ x p. p) (f k) (h k)) (chosen word choices)) (text_at name ms)

-- an API key
api_key_plain : (ms : Members) (ps : Parts) → MembersPlain ms → PartsPlain ps → IfSome (read_api_key ms ps) IsPlain
api_key_plain ms ps g h = tagged_plain (codes "in") api_key_places (read_alternative ms ps) ms (alternative_plain ms ps g h)

-- an alternative of a security scheme
scheme_plain : (ms : Members) (ps : Parts) → MembersPlain ms → PartsPlain ps → ReadsPlain (read_scheme ms ps)
scheme_plain ms ps g h api_key = api_key_plain ms ps g h
scheme_plain ms ps g h k = alternative_plain ms ps g h k

-- the first type that fits
first_plain : (cs : List (List ℕ × ObjectType)) (f : Kind → Option Doc) → ReadsPlain f → IfSome (first_that_fits cs f) IsPlain
first_plain [] f h = tt
first_plain (c ∷ cs) f h = if_else IsPlain (f (named c.1)) (first_that_fits cs f) (h (named c.1)) (first_plain cs f h)

-- a flow
flow_plain : (o : Option ObjectType) (f : Kind → Option Doc) → ReadsPlain f → IfSome (read_flow o f) IsPlain
unfolding has_fraction
flow_plain (Some n) f h = if_map IsPlain IsPlain flow_doc (λ x p. p) (f (named n)) (h (named n))
flow_plain None f h = if_map IsPlain IsPlain flow_doc (λ x p. p) (first_that_fits flow_keys f) (first_plain flow_keys f h)

-- the flows of an object
flows_plain : (ps : Parts) → PartsPlain ps → IfSome (read_flows ps) EntriesPlain
unfolding entries_have_fraction
flows_plain [] h = refl
flows_plain (p ∷ ps) h =
    let f = part_reads (named_part p) in
    let n = chosen (part_name p) flow_keys in
    both_entries_plain (part_name p) (read_flow n f) (read_flows ps) (flow_plain n f h.0) (flows_plain ps h.1)

-- ---- arrays and objects

-- an array
array_plain : (ds : Items) (rs : List (Kind → Option Doc)) → items_have_float ds ≡ false → ItemsPlain rs → ReadsPlain (read_array ds rs)
unfolding has_fraction
array_plain ds rs g h any = g
array_plain ds rs g h (list_of k) = if_map ArePlain IsPlain list_doc (λ x p. p) (read_items k rs) (items_plain k rs h)
array_plain ds rs g h schema_type = if_map ArePlain IsPlain (λ ws. types_doc (list_doc ws)) (λ x p. p) (read_items (word_of type_word) rs) (items_plain (word_of type_word) rs h)
array_plain ds rs g h (ref_or k) = own_plain (read_array ds rs k) (array_plain ds rs g h k)
array_plain ds rs g h k = tt

-- an object
object_plain : (ms : Members) (ps : Parts) → MembersPlain ms → PartsPlain ps → ReadsPlain (read_object ms ps)
unfolding has_fraction
object_plain ms ps g h any = g
object_plain ms ps g h (map_of k) = if_map EntriesPlain IsPlain map_doc (λ x p. p) (read_entries k ps) (entries_plain k ps h)
object_plain ms ps g h (ordered_map_of k) =
    if_map EntriesPlain IsPlain (λ es. ordered_map_doc (by_name es)) (λ es p. put_entries_plain es no_entries p refl) (read_entries k ps) (entries_plain k ps h)
object_plain ms ps g h (entries_of k) =
    if_map EntriesPlain IsPlain (λ es. entries_doc es (extensions_of true ms)) (λ x p. or_false _ _ p (extensions_plain true ms g)) (read_entries k (entry_parts ps)) (entries_plain k (entry_parts ps) (entry_parts_plain ps h))
object_plain ms ps g h (ref_or k) = ref_or_plain k (read_object ms ps k) ms ps g h (object_plain ms ps g h k)
object_plain ms ps g h (named n) = table_plain n ms ps g h
object_plain ms ps g h schema = schema_plain ms ps g h
object_plain ms ps g h array_items = ref_or_plain schema (read_schema ms ps) ms ps g h (schema_plain ms ps g h)
object_plain ms ps g h additional_properties = ref_or_plain schema (read_schema ms ps) ms ps g h (schema_plain ms ps g h)
object_plain ms ps g h security_scheme = tagged_plain (codes "type") scheme_types (read_scheme ms ps) ms (scheme_plain ms ps g h)
object_plain ms ps g h api_key = api_key_plain ms ps g h
object_plain ms ps g h flows = if_map EntriesPlain IsPlain map_doc (λ x p. p) (read_flows ps) (flows_plain ps h)
object_plain ms ps g h k = tt

mutual
  unfolding reader item_readers parts

  -- what is read of a plain tree
  tree_plain : (t : Data) → has_float t ≡ false → ReadsPlain (reader t)
  tree_plain null h = null_plain
  tree_plain (boolean b) h = boolean_plain b
  tree_plain (number n) h = number_plain n h
  tree_plain (string s) h = string_plain s
  tree_plain (array ds) h = array_plain ds (item_readers ds) h (item_readers_plain ds h)
  tree_plain (object ms) h = object_plain ms (parts ms) h (parts_plain ms h)

  -- what is read of plain items
  item_readers_plain : (ds : Items) → items_have_float ds ≡ false → ItemsPlain (item_readers ds)
  item_readers_plain no_items h = tt
  item_readers_plain (item d ds) h = (tree_plain d (or_first _ _ h), item_readers_plain ds (or_second _ _ h))

  -- what is read of plain members
  parts_plain : (ms : Members) → MembersPlain ms → PartsPlain (parts ms)
  parts_plain no_members h = tt
  parts_plain (member k d ms) h = (tree_plain d (or_first _ _ h), parts_plain ms (or_second _ _ h))

-- what is read of a plain tree is plain
pub read_plain : (k : Kind) (t : Data) (d : Doc) → has_float t ≡ false → read k t ≡ Some d → has_fraction d ≡ false
read_plain k t d h e = if_is IsPlain (reader t k) d (tree_plain t h k) e

-- ---- the written tree

-- an integer is no fraction
integer_plain : (z : ℤ) → is_float (of_integer z) ≡ false
integer_plain (pos n) = refl
integer_plain (negsuc n) = refl

-- the members, with one put among them
put_plain : (k : List ℕ) (d : Data) (ms : Members) → has_float d ≡ false → MembersPlain ms → MembersPlain (put k d ms)
put_plain k d no_members g h = or_false _ _ g refl
put_plain k d (member l e ms) g h =
    by_order MembersPlain (slice_cmp nat_cmp k l) (member k d (member l e ms)) (member l d ms) (member l e (put k d ms))
    (or_false _ _ g h) (or_false _ _ g (or_second _ _ h)) (or_false _ _ (or_first _ _ h) (put_plain k d ms g (or_second _ _ h)))

-- the members, with one put among them or left out
put_unless_plain : (b : Bool) (k : List ℕ) (d : Data) (ms : Members) → has_float d ≡ false → MembersPlain ms → MembersPlain (put_unless b k d ms)
put_unless_plain true k d ms g h = h
put_unless_plain false k d ms g h = put_plain k d ms g h

-- an object with one more text
with_text_plain : (name word : List ℕ) (t : Data) → has_float t ≡ false → has_float (with_member name (string word) t) ≡ false
with_text_plain name word null h = refl
with_text_plain name word (boolean b) h = refl
with_text_plain name word (number n) h = h
with_text_plain name word (string s) h = refl
with_text_plain name word (array ds) h = h
with_text_plain name word (object ms) h = put_plain name (string word) ms refl h

-- a member before the rest of its list and among the members of another
merge_member_plain : (k : List ℕ) (d : Data) (rest : Members → Members) → has_float d ≡ false → ((ms : Members) → MembersPlain ms → MembersPlain (rest ms)) → (ms : Members) → MembersPlain ms → MembersPlain (merge_member k d rest ms)
merge_member_plain k d rest g f no_members h = or_false _ _ g (f no_members refl)
merge_member_plain k d rest g f (member l e ms) h =
    by_order MembersPlain (slice_cmp nat_cmp k l) (member k d (rest (member l e ms))) (member k d (rest ms)) (member l e (merge_member k d rest ms))
    (or_false _ _ g (f (member l e ms) h)) (or_false _ _ g (f ms (or_second _ _ h))) (or_false _ _ (or_first _ _ h) (merge_member_plain k d rest g f ms (or_second _ _ h)))

-- the members of both
merge_members_plain : (es ms : Members) → MembersPlain es → MembersPlain ms → MembersPlain (merge_members es ms)
merge_members_plain no_members ms g h = h
merge_members_plain (member k d es) ms g h = merge_member_plain k d (merge_members es) (or_first _ _ g) (λ ns q. merge_members_plain es ns (or_second _ _ g) q) ms h

mutual
  unfolding has_fraction docs_have_fraction entries_have_fraction write write_items write_entries put_written write_rows

  -- a plain document's written tree is plain
  pub write_plain : (d : Doc) → has_fraction d ≡ false → has_float (write d) ≡ false
  write_plain (text_doc s) h = refl
  write_plain (flag_doc b) h = refl
  write_plain (whole_doc n) h = refl
  write_plain (int_doc z) h = integer_plain z
  write_plain (uint_doc n) h = refl
  write_plain (tree_doc d) h = h
  write_plain (word_doc s) h = refl
  write_plain (custom_doc s) h = refl
  write_plain (types_doc d) h = write_plain d h
  write_plain any_value_doc h = refl
  write_plain none_doc h = refl
  write_plain (some_doc d) h = write_plain d h
  write_plain (ref_doc k d) h = write_plain d h
  write_plain (own_doc d) h = write_plain d h
  write_plain (schema_doc d) h = write_plain d h
  write_plain (tagged_doc name word d) h = with_text_plain name word (write d) (write_plain d h)
  write_plain (flow_doc d) h = write_plain d h
  write_plain (list_doc ds) h = write_items_plain ds h
  write_plain (map_doc es) h = write_entries_plain es h
  write_plain (ordered_map_doc es) h = put_written_plain es no_members h refl
  write_plain (entries_doc es e) h = merge_members_plain (write_entries es) (members_or_none e) (write_entries_plain es (or_first _ _ h)) (or_second _ _ h)
  write_plain (table_doc n ds e) h = write_rows_plain ds (table n) (members_or_none e) (or_first _ _ h) (or_second _ _ h)

  -- plain items
  write_items_plain : (ds : Docs) → ArePlain ds → items_have_float (write_items ds) ≡ false
  write_items_plain no_docs h = refl
  write_items_plain (doc d ds) h = or_false _ _ (write_plain d (or_first _ _ h)) (write_items_plain ds (or_second _ _ h))

  -- plain entries
  write_entries_plain : (es : Entries) → EntriesPlain es → MembersPlain (write_entries es)
  write_entries_plain no_entries h = refl
  write_entries_plain (entry k d es) h = or_false _ _ (write_plain d (or_first _ _ h)) (write_entries_plain es (or_second _ _ h))

  -- plain entries put among plain members
  put_written_plain : (es : Entries) (ms : Members) → EntriesPlain es → MembersPlain ms → MembersPlain (put_written es ms)
  put_written_plain no_entries ms g h = h
  put_written_plain (entry k d es) ms g h = put_written_plain es (put k (write d) ms) (or_second _ _ g) (put_plain k (write d) ms (write_plain d (or_first _ _ g)) h)

  -- plain fields among plain members
  write_rows_plain : (ds : Docs) (rs : List Row) (ms : Members) → ArePlain ds → MembersPlain ms → MembersPlain (write_rows ds rs ms)
  write_rows_plain no_docs rs ms g h = h
  write_rows_plain (doc d ds) [] ms g h = h
  write_rows_plain (doc d ds) (r ∷ rs) ms g h = write_rows_plain ds rs _ (or_second _ _ g) (put_unless_plain (left_out r.mark d) r.name (write d) ms (write_plain d (or_first _ _ g)) h)
