-- What is read of a sorted tree, as that of a text, is written as a sorted tree, in which each name stands once in an object.
use Rattle.std.proofs.Common.{◌≡◌, ◌∙◌, ℕ, ℤ, pos, negsuc, ◌^◌, nat_lt, List, [], ◌∷◌, Bool, true, false, not, cond, if◌then◌else◌, codes, Option, Some, None, IfSome, option_map, refl, sym, ap, subst, Ordering, Less, Equal, Greater, nat_cmp}
use Rattle.std.specs.List.{AllByRecursion, list_any}
use Rattle.std.specs.Str.{is_utf8}
use Rattle.std.specs.List.Sorted.{IsStrictlySortedBy}
use Rattle.std.specs.Ordering.{match_ordering, ordering_reverse}
use Rattle.std.specs.Cmp.Lexicographic.{slice_cmp}
use Rattle.std.proofs.lemmas.Cmp.{nat_list_cmp_total}
use Rattle.std.proofs.lemmas.Map.Lookups.{exact_bytes}
use Rattle.serde_json.specs.Data.{Num, Data, null, boolean, number, string, array, object, Items, no_items, item, Members, no_members, member, put}
use Rattle.serde_json.specs.Read.{read as read_text}
use Rattle.serde_json.specs.Find.{as_integer, as_u64, get, get_member}
use Rattle.utoipa_base.specs.Kinds.{ObjectType, reference_object, one_of_schema, all_of_schema, any_of_schema, array_schema, object_schema, type_word, known_format, Kind, text, flag, whole, numeral, any, word_of, version, list_of, map_of, ordered_map_of, entries_of, ref_or, named, schema, schema_type, schema_format, array_items, additional_properties, security_scheme, api_key, flows, Mark, required, optional, or_null, defaulted, Row}
use Rattle.utoipa_base.specs.Words.{is_word}
use Rattle.utoipa_base.specs.Version.{read_version}
use Rattle.utoipa_base.specs.Choices.{chosen, scheme_types, flow_keys, api_key_places, schema_keywords}
use Rattle.utoipa_base.specs.Docs.{Doc, whole_doc, int_doc, uint_doc, word_doc, types_doc, none_doc, some_doc, ref_doc, own_doc, schema_doc, tagged_doc, flow_doc, list_doc, map_doc, ordered_map_doc, entries_doc, table_doc, Docs, no_docs, doc, Entries, no_entries, entry}
use Rattle.utoipa_base.specs.Tables.{table, has_extensions}
use Rattle.utoipa_base.specs.Extensions.{is_extension, extension_members, extensions_of, some_if_any, members_or_none}
use Rattle.utoipa_base.specs.Reading.{both, both_entries, or_else, only_if, Part, part_is_null, part_reads, Parts, part_name, named_part, part, entry_parts, empty_doc, fits, read_rows, read_table, read_items, read_entries, is_named, read_schema, read_ref_or, text_at, read_alternative, read_tagged, read_api_key, read_scheme, first_that_fits, read_flow, read_flows, read_null, read_boolean, numeral_doc, read_number, read_word, read_format, read_string, read_array, read_object, reader, item_readers, parts, read}
use Rattle.utoipa_base.specs.Writing.{write, write_items, write_entries, put_written, write_rows, left_out, put_unless, merge_member, merge_members, with_member}
use Rattle.utoipa_base.specs.ByName.{put_entry, put_entries, by_name}
use Rattle.utoipa_base.proofs.Results.{if_is, if_map, if_made, if_then, if_else, if_only, by_order}
use Rattle.utoipa_check.specs.Places.{members_at}
use Rattle.utoipa_conflicts.specs.Holders.{AreApart, EachMember, IsApart, AreComponentsApart, IsMemberApart, IsItemApart, ArePathsApart, IsNamedOnce}
use Rattle.utoipa_merging.specs.Merged.{Ascends, names_in}
use Rattle.utoipa_merging.specs.Sorted.{IsSorted, AreItemsSorted, AreMembersSorted}
use Rattle.utoipa_merging.proofs.SortedTexts.{sorted_put, text_sorted}
use Rattle.utoipa_findings.specs.Sources.{tree_of}

-- ---- what is sorted

-- the name comes before all of these
abbrev pub IsBelow : List ℕ → List (List ℕ) → Type 0
IsBelow k names = AllByRecursion (λ l. slice_cmp nat_cmp k l ≡ Less) names

-- a document that is written as a sorted tree
abbrev WritesSorted : Doc → Type 0
WritesSorted d = IsSorted (write d)

abbrev AllWriteSorted : Docs → Type 0
AllWriteSorted no_docs = Unit {0}
AllWriteSorted (doc d ds) = WritesSorted d × AllWriteSorted ds

abbrev EntriesWriteSorted : Entries → Type 0
EntriesWriteSorted no_entries = Unit {0}
EntriesWriteSorted (entry k d es) = WritesSorted d × EntriesWriteSorted es

-- the entries stand under these names, and are written as sorted trees
abbrev AreNamed : List (List ℕ) → Entries → Type 0
AreNamed names es = (names_in (write_entries es) ≡ names) × AreMembersSorted (write_entries es)

-- what a reader reads
abbrev ReadsSorted : (Kind → Option Doc) → Type 0
ReadsSorted f = (k : Kind) → IfSome (f k) WritesSorted

abbrev ItemsReadSorted : List (Kind → Option Doc) → Type 0
ItemsReadSorted [] = Unit {0}
ItemsReadSorted (r ∷ rs) = ReadsSorted r × ItemsReadSorted rs

abbrev PartsReadSorted : Parts → Type 0
PartsReadSorted [] = Unit {0}
PartsReadSorted (p ∷ ps) = ReadsSorted (part_reads (named_part p)) × PartsReadSorted ps

abbrev part_names : Parts → List (List ℕ)
part_names [] = []
part_names (p ∷ ps) = part_name p ∷ part_names ps

-- ---- names

below_all : (k l : List ℕ) (names : List (List ℕ)) → slice_cmp nat_cmp k l ≡ Less → IsBelow l names → IsBelow k names
below_all k l [] h b = tt
below_all k l (m ∷ names) h b = (nat_list_cmp_total.trans k l m h b.0, below_all k l names h b.1)

before : (k l : List ℕ) → slice_cmp nat_cmp k l ≡ Greater → slice_cmp nat_cmp l k ≡ Less
before k l h = nat_list_cmp_total.antisymm l k ∙ ap ordering_reverse h

-- ---- trees that are neither arrays nor objects

own_sorted : (o : Option Doc) → IfSome o WritesSorted → IfSome (option_map own_doc o) WritesSorted
unfolding write
own_sorted o h = if_map WritesSorted WritesSorted own_doc (λ x p. p) o h

null_sorted : ReadsSorted read_null
unfolding write
null_sorted any = tt
null_sorted schema_type = tt
null_sorted (ref_or k) = own_sorted (read_null k) (null_sorted k)
null_sorted k = tt

boolean_sorted : (b : Bool) → ReadsSorted (read_boolean b)
unfolding write
boolean_sorted b flag = tt
boolean_sorted b any = tt
boolean_sorted b additional_properties = tt
boolean_sorted true array_items = tt
boolean_sorted false array_items = tt
boolean_sorted b (ref_or k) = own_sorted (read_boolean b k) (boolean_sorted b k)
boolean_sorted b k = tt

uint_sorted : (b : Bool) (n : ℕ) → WritesSorted (cond b (int_doc (pos n)) (uint_doc n))
unfolding write
uint_sorted true n = tt
uint_sorted false n = tt

int_sorted : (z : ℤ) → WritesSorted (numeral_doc z)
unfolding write
int_sorted (pos n) = uint_sorted (nat_lt n (2 ^ 63)) n
int_sorted (negsuc n) = tt

number_sorted : (n : Num) → ReadsSorted (read_number n)
unfolding write
number_sorted n whole = if_made WritesSorted whole_doc (λ m. tt) (as_u64 n)
number_sorted n numeral = if_made WritesSorted numeral_doc int_sorted (as_integer n)
number_sorted n any = tt
number_sorted n (ref_or k) = own_sorted (read_number n k) (number_sorted n k)
number_sorted n k = tt

word_sorted : (b : Bool) (s : List ℕ) → IfSome (read_word b s) WritesSorted
unfolding write
word_sorted true s = tt
word_sorted false s = tt

format_sorted : (b : Bool) (s : List ℕ) → WritesSorted (read_format b s)
unfolding write
format_sorted true s = tt
format_sorted false s = tt

string_sorted : (s : List ℕ) → ReadsSorted (read_string s)
unfolding write
string_sorted s text = tt
string_sorted s any = tt
string_sorted s (word_of v) = word_sorted (is_word v s) s
string_sorted s version = if_made WritesSorted word_doc (λ x. tt) (read_version s)
string_sorted s schema_type = word_sorted (is_word type_word s) s
string_sorted s schema_format = format_sorted (is_word known_format s) s
string_sorted s (ref_or k) = own_sorted (read_string s k) (string_sorted s k)
string_sorted s k = tt

-- ---- lists and maps

both_sorted : (o : Option Doc) (p : Option Docs) → IfSome o WritesSorted → IfSome p AllWriteSorted → IfSome (both o p) AllWriteSorted
both_sorted None p g h = tt
both_sorted (Some d) None g h = tt
both_sorted (Some d) (Some ds) g h = (g, h)

both_named : (k : List ℕ) (names : List (List ℕ)) (o : Option Doc) (p : Option Entries) → IfSome o WritesSorted → IfSome p (AreNamed names) → IfSome (both_entries k o p) (AreNamed (k ∷ names))
unfolding write_entries
both_named k names None p g h = tt
both_named k names (Some d) None g h = tt
both_named k names (Some d) (Some es) g h = (ap (λ l. k ∷ l) h.0, (g, h.1))

items_sorted : (k : Kind) (rs : List (Kind → Option Doc)) → ItemsReadSorted rs → IfSome (read_items k rs) AllWriteSorted
items_sorted k [] h = tt
items_sorted k (r ∷ rs) h = both_sorted (r k) (read_items k rs) (h.0 k) (items_sorted k rs h.1)

entries_named : (k : Kind) (ps : Parts) → PartsReadSorted ps → IfSome (read_entries k ps) (AreNamed (part_names ps))
unfolding write_entries
entries_named k [] h = (refl, tt)
entries_named k (p ∷ ps) h = both_named (part_name p) (part_names ps) (part_reads (named_part p) k) (read_entries k ps) (h.0 k) (entries_named k ps h.1)

-- a list
list_sorted : (ds : Docs) → AllWriteSorted ds → AreItemsSorted (write_items ds)
unfolding write_items
list_sorted no_docs h = tt
list_sorted (doc d ds) h = (h.0, list_sorted ds h.1)

-- a map
map_sorted : (names : List (List ℕ)) (es : Entries) → Ascends names → AreNamed names es → IsSorted (object (write_entries es))
map_sorted names es s h = (subst Ascends (sym h.0) s, h.1)

-- each entry is written as a sorted tree
each_sorted : (es : Entries) → AreMembersSorted (write_entries es) → EntriesWriteSorted es
unfolding write_entries
each_sorted no_entries h = tt
each_sorted (entry k d es) h = (h.0, each_sorted es h.1)

put_entry_sorted : (k : List ℕ) (d : Doc) (es : Entries) → WritesSorted d → EntriesWriteSorted es → EntriesWriteSorted (put_entry k d es)
put_entry_sorted k d no_entries g h = (g, tt)
put_entry_sorted k d (entry l e es) g h =
    by_order EntriesWriteSorted (slice_cmp nat_cmp k l) (entry k d (entry l e es)) (entry l d es) (entry l e (put_entry k d es)) (g, h) (g, h.1) (h.0, put_entry_sorted k d es g h.1)

put_entries_sorted : (es fs : Entries) → EntriesWriteSorted es → EntriesWriteSorted fs → EntriesWriteSorted (put_entries es fs)
put_entries_sorted no_entries fs g h = h
put_entries_sorted (entry k d es) fs g h = put_entries_sorted es (put_entry k d fs) g.1 (put_entry_sorted k d fs g.0 h)

put_written_sorted : (es : Entries) (ms : Members) → EntriesWriteSorted es → IsSorted (object ms) → IsSorted (object (put_written es ms))
unfolding put_written
put_written_sorted no_entries ms g h = h
put_written_sorted (entry k d es) ms g h = put_written_sorted es (put k (write d) ms) g.1 (sorted_put k (write d) ms g.0 h)

nothing_sorted : IsSorted (object no_members)
unfolding IsStrictlySortedBy
nothing_sorted = (tt, tt)

ordered_map_sorted : (es : Entries) → AreMembersSorted (write_entries es) → WritesSorted (ordered_map_doc (by_name es))
unfolding write
ordered_map_sorted es h = put_written_sorted (by_name es) no_members (put_entries_sorted es no_entries (each_sorted es h) tt) nothing_sorted

-- ---- members of two lists

-- what merging members into others gives: it is sorted, and a name that comes before all of both comes before all of it
Merges : (Members → Members) → Members → Type 0
Merges rest es = (ns : Members) → IsSorted (object ns) → IsSorted (object (rest ns)) × ((j : List ℕ) → IsBelow j (names_in es) → IsBelow j (names_in ns) → IsBelow j (names_in (rest ns)))

-- sorted, and below what both are below
Merged : (names others : List (List ℕ)) → Members → Type 0
Merged names others made = IsSorted (object made) × ((j : List ℕ) → IsBelow j names → IsBelow j others → IsBelow j (names_in made))

-- by where the name stands beside the first of the others
merge_at : (k : List ℕ) (d : Data) (es : Members) (rest : Members → Members) → IsSorted d → IsBelow k (names_in es) → Merges rest es → (l : List ℕ) (e : Data) (ms : Members) → IsSorted (object (member l e ms))
    → Merged (names_in (member k d es)) (names_in ms) (merge_member k d rest ms) → (o : Ordering) → slice_cmp nat_cmp k l ≡ o
    → Merged (names_in (member k d es)) (names_in (member l e ms)) (match_ordering o (member k d (rest (member l e ms))) (member k d (rest ms)) (member l e (merge_member k d rest ms)))
unfolding IsStrictlySortedBy Merges Merged
merge_at k d es rest g below f l e ms h later Less is =
    let r = f (member l e ms) h in
    (((r.1 k below (is, below_all k l (names_in ms) is h.0.0), r.0.0), (g, r.0.1)), λ j b c. (b.0, r.1 j b.1 c))
merge_at k d es rest g below f l e ms h later Equal is =
    let r = f ms (h.0.1, h.1.1) in
    let after : IsBelow k (names_in ms) = subst (λ x. IsBelow x (names_in ms)) (sym (exact_bytes k l is)) h.0.0 in
    (((r.1 k below after, r.0.0), (g, r.0.1)), λ j b c. (b.0, r.1 j b.1 c.1))
merge_at k d es rest g below f l e ms h later Greater is =
    let first = before k l is in
    (((later.1 l (first, below_all l k (names_in es) first below) h.0.0, later.0.0), (h.1.0, later.0.1)), λ j b c. (c.0, later.1 j b c.1))

merge_member_sorted : (k : List ℕ) (d : Data) (es : Members) (rest : Members → Members) → IsSorted d → IsBelow k (names_in es) → Merges rest es → (ms : Members) → IsSorted (object ms)
    → Merged (names_in (member k d es)) (names_in ms) (merge_member k d rest ms)
unfolding IsStrictlySortedBy Merges Merged
merge_member_sorted k d es rest g below f no_members h =
    let r = f no_members h in
    (((r.1 k below tt, r.0.0), (g, r.0.1)), λ j b c. (b.0, r.1 j b.1 tt))
merge_member_sorted k d es rest g below f (member l e ms) h = merge_at k d es rest g below f l e ms h (merge_member_sorted k d es rest g below f ms (h.0.1, h.1.1)) (slice_cmp nat_cmp k l) refl

merges : (es : Members) → IsSorted (object es) → Merges (merge_members es) es
unfolding IsStrictlySortedBy Merges Merged
merges no_members g = λ ns h. (h, λ j b c. c)
merges (member k d es) g = merge_member_sorted k d es (merge_members es) g.1.0 g.0.0 (merges es (g.0.1, g.1.1))

merged_sorted : (es ms : Members) → IsSorted (object es) → IsSorted (object ms) → IsSorted (object (merge_members es ms))
unfolding Merges
merged_sorted es ms g h = (merges es g ms h).0

-- ---- extensions, and the entries beside them

below_kept : (j : List ℕ) (b : Bool) (k : List ℕ) (d : Data) (ms : Members) → slice_cmp nat_cmp j k ≡ Less → IsBelow j (names_in ms) → IsBelow j (names_in (cond b (member k d ms) ms))
below_kept j true k d ms h g = (h, g)
below_kept j false k d ms h g = g

below_extensions : (j : List ℕ) (ms : Members) → IsBelow j (names_in ms) → IsBelow j (names_in (extension_members ms))
below_extensions j no_members h = tt
below_extensions j (member k d ms) h = below_kept j (is_extension k) k d (extension_members ms) h.0 (below_extensions j ms h.1)

kept_sorted : (b : Bool) (k : List ℕ) (d : Data) (ms : Members) → IsBelow k (names_in ms) → IsSorted d → IsSorted (object ms) → IsSorted (object (cond b (member k d ms) ms))
unfolding IsStrictlySortedBy
kept_sorted true k d ms below g h = ((below, h.0), (g, h.1))
kept_sorted false k d ms below g h = h

extension_members_sorted : (ms : Members) → IsSorted (object ms) → IsSorted (object (extension_members ms))
unfolding IsStrictlySortedBy
extension_members_sorted no_members h = h
extension_members_sorted (member k d ms) h =
    kept_sorted (is_extension k) k d (extension_members ms) (below_extensions k ms h.0.0) h.1.0 (extension_members_sorted ms (h.0.1, h.1.1))

some_if_any_sorted : (ms : Members) → IsSorted (object ms) → IsSorted (object (members_or_none (some_if_any ms)))
some_if_any_sorted no_members h = h
some_if_any_sorted (member k d ms) h = h

extensions_sorted : (kept : Bool) (ms : Members) → IsSorted (object ms) → IsSorted (object (members_or_none (extensions_of kept ms)))
extensions_sorted true ms h = some_if_any_sorted (extension_members ms) (extension_members_sorted ms h)
extensions_sorted false ms h = nothing_sorted

below_part : (j : List ℕ) (b : Bool) (p : List ℕ × Part) (ps : Parts) → slice_cmp nat_cmp j (part_name p) ≡ Less → IsBelow j (part_names ps) → IsBelow j (part_names (cond b ps (p ∷ ps)))
below_part j true p ps h g = g
below_part j false p ps h g = (h, g)

below_parts : (j : List ℕ) (ps : Parts) → IsBelow j (part_names ps) → IsBelow j (part_names (entry_parts ps))
below_parts j [] h = tt
below_parts j (p ∷ ps) h = below_part j (is_extension (part_name p)) p (entry_parts ps) h.0 (below_parts j ps h.1)

part_ascends : (b : Bool) (p : List ℕ × Part) (ps : Parts) → IsBelow (part_name p) (part_names ps) → Ascends (part_names ps) → Ascends (part_names (cond b ps (p ∷ ps)))
unfolding IsStrictlySortedBy
part_ascends true p ps below h = h
part_ascends false p ps below h = (below, h)

parts_ascend : (ps : Parts) → Ascends (part_names ps) → Ascends (part_names (entry_parts ps))
unfolding IsStrictlySortedBy
parts_ascend [] h = h
parts_ascend (p ∷ ps) h = part_ascends (is_extension (part_name p)) p (entry_parts ps) (below_parts (part_name p) ps h.0) (parts_ascend ps h.1)

part_kept : (b : Bool) (p : List ℕ × Part) (ps : Parts) → ReadsSorted (part_reads (named_part p)) → PartsReadSorted ps → PartsReadSorted (cond b ps (p ∷ ps))
part_kept true p ps g h = h
part_kept false p ps g h = (g, h)

parts_kept : (ps : Parts) → PartsReadSorted ps → PartsReadSorted (entry_parts ps)
parts_kept [] h = tt
parts_kept (p ∷ ps) h = part_kept (is_extension (part_name p)) p (entry_parts ps) h.0 (parts_kept ps h.1)

-- ---- rows

part_sorted : (name : List ℕ) (ps : Parts) → PartsReadSorted ps → IfSome (part name ps) (λ m. ReadsSorted (part_reads m))
part_sorted name [] h = tt
part_sorted name (p ∷ ps) h =
    by_order (λ o. IfSome o (λ m. ReadsSorted (part_reads m))) (slice_cmp nat_cmp name (part_name p)) (part name ps) (Some (named_part p)) (part name ps) (part_sorted name ps h.1) h.0 (part_sorted name ps h.1)

empty_sorted : (k : Kind) → WritesSorted (empty_doc k)
unfolding write write_items write_entries put_written IsStrictlySortedBy
empty_sorted text = tt
empty_sorted flag = tt
empty_sorted (list_of k) = tt
empty_sorted (map_of k) = (tt, tt)
empty_sorted (ordered_map_of k) = (tt, tt)
empty_sorted schema_type = tt
empty_sorted k = tt

optional_sorted : (b : Bool) (o : Option Doc) → IfSome o WritesSorted → IfSome (cond b (Some none_doc) (option_map some_doc o)) WritesSorted
unfolding write
optional_sorted true o h = tt
optional_sorted false o h = if_map WritesSorted WritesSorted some_doc (λ x p. p) o h

field_sorted : (m : Mark) (k : Kind) (o : Option Part) → IfSome o (λ p. ReadsSorted (part_reads p)) → IfSome (fits m k o) WritesSorted
unfolding write
field_sorted required k None h = tt
field_sorted required k (Some p) h = h k
field_sorted optional k None h = tt
field_sorted optional k (Some p) h = optional_sorted (part_is_null p) (part_reads p k) (h k)
field_sorted or_null k None h = tt
field_sorted or_null k (Some p) h = optional_sorted (part_is_null p) (part_reads p k) (h k)
field_sorted defaulted k None h = empty_sorted k
field_sorted defaulted k (Some p) h = h k

rows_sorted : (rs : List Row) (ps : Parts) → PartsReadSorted ps → IfSome (read_rows rs ps) AllWriteSorted
rows_sorted [] ps h = tt
rows_sorted (r ∷ rs) ps h = both_sorted (fits r.mark r.kind (part r.name ps)) (read_rows rs ps) (field_sorted r.mark r.kind (part r.name ps) (part_sorted r.name ps h)) (rows_sorted rs ps h)

put_unless_sorted : (b : Bool) (k : List ℕ) (d : Data) (ms : Members) → IsSorted d → IsSorted (object ms) → IsSorted (object (put_unless b k d ms))
put_unless_sorted true k d ms g h = h
put_unless_sorted false k d ms g h = sorted_put k d ms g h

fields_sorted : (ds : Docs) (rs : List Row) (ms : Members) → AllWriteSorted ds → IsSorted (object ms) → IsSorted (object (write_rows ds rs ms))
unfolding write_rows
fields_sorted no_docs rs ms g h = h
fields_sorted (doc d ds) [] ms g h = h
fields_sorted (doc d ds) (r ∷ rs) ms g h = fields_sorted ds rs _ g.1 (put_unless_sorted (left_out r.mark d) r.name (write d) ms g.0 h)

table_sorted : (n : ObjectType) (ms : Members) (ps : Parts) → IsSorted (object ms) → PartsReadSorted ps → IfSome (read_table n ms ps) WritesSorted
unfolding write
table_sorted n ms ps g h =
    if_map AllWriteSorted WritesSorted (λ ds. table_doc n ds (extensions_of (has_extensions n) ms)) (λ ds p. fields_sorted ds (table n) (members_or_none (extensions_of (has_extensions n) ms)) p (extensions_sorted (has_extensions n) ms g))
    (read_rows (table n) ps) (rows_sorted (table n) ps h)

-- ---- choices

schema_sorted : (ms : Members) (ps : Parts) → IsSorted (object ms) → PartsReadSorted ps → IfSome (read_schema ms ps) WritesSorted
unfolding write
schema_sorted ms ps g h =
    let one = read_table one_of_schema ms ps in
    let all = read_table all_of_schema ms ps in
    let some = read_table any_of_schema ms ps in
    let list = read_table array_schema ms ps in
    let typed = only_if (is_named (codes "type") ms) (read_table object_schema ms ps) in
    let bare = only_if (not (list_any (λ name. is_named name ms) schema_keywords)) (read_table object_schema ms ps) in
    let objects = or_else typed bare in
    let object_table = table_sorted object_schema ms ps g h in
    if_map WritesSorted WritesSorted schema_doc (λ x p. p) (or_else one (or_else all (or_else some (or_else list objects))))
    (if_else WritesSorted one (or_else all (or_else some (or_else list objects))) (table_sorted one_of_schema ms ps g h)
    (if_else WritesSorted all (or_else some (or_else list objects)) (table_sorted all_of_schema ms ps g h)
    (if_else WritesSorted some (or_else list objects) (table_sorted any_of_schema ms ps g h)
    (if_else WritesSorted list objects (table_sorted array_schema ms ps g h)
    (if_else WritesSorted typed bare (if_only WritesSorted (is_named (codes "type") ms) (read_table object_schema ms ps) object_table)
    (if_only WritesSorted (not (list_any (λ name. is_named name ms) schema_keywords)) (read_table object_schema ms ps) object_table))))))

ref_or_sorted : (k : Kind) (own : Option Doc) (ms : Members) (ps : Parts) → IsSorted (object ms) → PartsReadSorted ps → IfSome own WritesSorted → IfSome (read_ref_or k own ms ps) WritesSorted
unfolding write
ref_or_sorted k own ms ps g h o =
    if_else WritesSorted (option_map (ref_doc k) (read_table reference_object ms ps)) (option_map own_doc own) (if_map WritesSorted WritesSorted (ref_doc k) (λ x p. p) (read_table reference_object ms ps) (table_sorted reference_object ms ps g h)) (own_sorted own o)

alternative_sorted : (ms : Members) (ps : Parts) → IsSorted (object ms) → PartsReadSorted ps → ReadsSorted (read_alternative ms ps)
alternative_sorted ms ps g h (named n) = table_sorted n ms ps g h
alternative_sorted ms ps g h k = tt

with_text_sorted : (name word : List ℕ) (t : Data) → IsSorted t → IsSorted (with_member name (string word) t)
with_text_sorted name word null h = tt
with_text_sorted name word (boolean b) h = tt
with_text_sorted name word (number n) h = tt
with_text_sorted name word (string s) h = tt
with_text_sorted name word (array ds) h = h
with_text_sorted name word (object ms) h = sorted_put name (string word) ms tt h

tagged_sorted : (name : List ℕ) (choices : List (List ℕ × Kind)) (f : Kind → Option Doc) (ms : Members) → ReadsSorted f → IfSome (read_tagged name choices f ms) WritesSorted
unfolding write
tagged_sorted name choices f ms h =
    if_then WritesSorted _ (λ word. if_then WritesSorted _ (λ k. if_map WritesSorted WritesSorted (tagged_doc name word) (λ x p. with_text_sorted name word (write x) p) (f k) (h k)) (chosen word choices)) (text_at name ms)

api_key_sorted : (ms : Members) (ps : Parts) → IsSorted (object ms) → PartsReadSorted ps → IfSome (read_api_key ms ps) WritesSorted
api_key_sorted ms ps g h = tagged_sorted (codes "in") api_key_places (read_alternative ms ps) ms (alternative_sorted ms ps g h)

scheme_sorted : (ms : Members) (ps : Parts) → IsSorted (object ms) → PartsReadSorted ps → ReadsSorted (read_scheme ms ps)
scheme_sorted ms ps g h api_key = api_key_sorted ms ps g h
scheme_sorted ms ps g h k = alternative_sorted ms ps g h k

first_sorted : (cs : List (List ℕ × ObjectType)) (f : Kind → Option Doc) → ReadsSorted f → IfSome (first_that_fits cs f) WritesSorted
first_sorted [] f h = tt
first_sorted (c ∷ cs) f h = if_else WritesSorted (f (named c.1)) (first_that_fits cs f) (h (named c.1)) (first_sorted cs f h)

flow_sorted : (o : Option ObjectType) (f : Kind → Option Doc) → ReadsSorted f → IfSome (read_flow o f) WritesSorted
unfolding write
flow_sorted (Some n) f h = if_map WritesSorted WritesSorted flow_doc (λ x p. p) (f (named n)) (h (named n))
flow_sorted None f h = if_map WritesSorted WritesSorted flow_doc (λ x p. p) (first_that_fits flow_keys f) (first_sorted flow_keys f h)

flows_named : (ps : Parts) → PartsReadSorted ps → IfSome (read_flows ps) (AreNamed (part_names ps))
unfolding write_entries
flows_named [] h = (refl, tt)
flows_named (p ∷ ps) h =
    let f = part_reads (named_part p) in
    let n = chosen (part_name p) flow_keys in
    both_named (part_name p) (part_names ps) (read_flow n f) (read_flows ps) (flow_sorted n f h.0) (flows_named ps h.1)

-- ---- arrays and objects

array_sorted : (ds : Items) (rs : List (Kind → Option Doc)) → AreItemsSorted ds → ItemsReadSorted rs → ReadsSorted (read_array ds rs)
unfolding write
array_sorted ds rs g h any = g
array_sorted ds rs g h (list_of k) = if_map AllWriteSorted WritesSorted list_doc list_sorted (read_items k rs) (items_sorted k rs h)
array_sorted ds rs g h schema_type = if_map AllWriteSorted WritesSorted (λ ws. types_doc (list_doc ws)) list_sorted (read_items (word_of type_word) rs) (items_sorted (word_of type_word) rs h)
array_sorted ds rs g h (ref_or k) = own_sorted (read_array ds rs k) (array_sorted ds rs g h k)
array_sorted ds rs g h k = tt

object_sorted : (ms : Members) (ps : Parts) → IsSorted (object ms) → Ascends (part_names ps) → PartsReadSorted ps → ReadsSorted (read_object ms ps)
unfolding write
object_sorted ms ps g s h any = g
object_sorted ms ps g s h (map_of k) = if_map (AreNamed (part_names ps)) WritesSorted map_doc (λ es p. map_sorted (part_names ps) es s p) (read_entries k ps) (entries_named k ps h)
object_sorted ms ps g s h (ordered_map_of k) = if_map (AreNamed (part_names ps)) WritesSorted (λ es. ordered_map_doc (by_name es)) (λ es p. ordered_map_sorted es p.1) (read_entries k ps) (entries_named k ps h)
object_sorted ms ps g s h (entries_of k) =
    if_map (AreNamed (part_names (entry_parts ps))) WritesSorted (λ es. entries_doc es (extensions_of true ms))
    (λ es p. merged_sorted (write_entries es) (members_or_none (extensions_of true ms)) (map_sorted (part_names (entry_parts ps)) es (parts_ascend ps s) p) (extensions_sorted true ms g))
    (read_entries k (entry_parts ps)) (entries_named k (entry_parts ps) (parts_kept ps h))
object_sorted ms ps g s h (ref_or k) = ref_or_sorted k (read_object ms ps k) ms ps g h (object_sorted ms ps g s h k)
object_sorted ms ps g s h (named n) = table_sorted n ms ps g h
object_sorted ms ps g s h schema = schema_sorted ms ps g h
object_sorted ms ps g s h array_items = ref_or_sorted schema (read_schema ms ps) ms ps g h (schema_sorted ms ps g h)
object_sorted ms ps g s h additional_properties = ref_or_sorted schema (read_schema ms ps) ms ps g h (schema_sorted ms ps g h)
object_sorted ms ps g s h security_scheme = tagged_sorted (codes "type") scheme_types (read_scheme ms ps) ms (scheme_sorted ms ps g h)
object_sorted ms ps g s h api_key = api_key_sorted ms ps g h
object_sorted ms ps g s h flows = if_map (AreNamed (part_names ps)) WritesSorted map_doc (λ es p. map_sorted (part_names ps) es s p) (read_flows ps) (flows_named ps h)
object_sorted ms ps g s h k = tt

names_of_parts : (ms : Members) → part_names (parts ms) ≡ names_in ms
unfolding parts
names_of_parts no_members = refl
names_of_parts (member k d ms) = ap (λ l. k ∷ l) (names_of_parts ms)

mutual
  unfolding reader item_readers parts

  tree_sorted : (t : Data) → IsSorted t → ReadsSorted (reader t)
  tree_sorted null h = null_sorted
  tree_sorted (boolean b) h = boolean_sorted b
  tree_sorted (number n) h = number_sorted n
  tree_sorted (string s) h = string_sorted s
  tree_sorted (array ds) h = array_sorted ds (item_readers ds) h (item_readers_sorted ds h)
  tree_sorted (object ms) h = object_sorted ms (parts ms) h (subst Ascends (sym (names_of_parts ms)) h.0) (parts_read_sorted ms h.1)

  item_readers_sorted : (ds : Items) → AreItemsSorted ds → ItemsReadSorted (item_readers ds)
  item_readers_sorted no_items h = tt
  item_readers_sorted (item d ds) h = (tree_sorted d h.0, item_readers_sorted ds h.1)

  parts_read_sorted : (ms : Members) → AreMembersSorted ms → PartsReadSorted (parts ms)
  parts_read_sorted no_members h = tt
  parts_read_sorted (member k d ms) h = (tree_sorted d h.0, parts_read_sorted ms h.1)

-- what is read of a sorted tree is written as a sorted one
pub written_sorted : (k : Kind) (t : Data) (d : Doc) → IsSorted t → read k t ≡ Some d → IsSorted (write d)
written_sorted k t d h e = if_is WritesSorted (reader t k) d (tree_sorted t h k) e

-- ---- names that stand once

not_among : (k : List ℕ) (ms : Members) → IsBelow k (names_in ms) → get_member k ms ≡ None
not_among k no_members h = refl
not_among k (member l d ms) h = ap (λ o. match_ordering o (get_member k ms) (Some d) (get_member k ms)) h.0 ∙ not_among k ms h.1

members_apart : (ms : Members) → Ascends (names_in ms) → AreApart ms
unfolding IsStrictlySortedBy
members_apart no_members h = tt
members_apart (member k d ms) h = (not_among k ms h.0, members_apart ms h.1)

apart : (t : Data) → IsSorted t → AreApart (members_at t)
apart null h = tt
apart (boolean b) h = tt
apart (number n) h = tt
apart (string s) h = tt
apart (array ds) h = tt
apart (object ms) h = members_apart ms h.0

each_member : (P : List ℕ → Data → Type 0) → ((name : List ℕ) (x : Data) → IsSorted x → P name x) → (ms : Members) → AreMembersSorted ms → EachMember P ms
each_member P f no_members h = tt
each_member P f (member k d ms) h = (f k d h.0, each_member P f ms h.1)

each : (P : List ℕ → Data → Type 0) → ((name : List ℕ) (x : Data) → IsSorted x → P name x) → (t : Data) → IsSorted t → EachMember P (members_at t)
each P f null h = tt
each P f (boolean b) h = tt
each P f (number n) h = tt
each P f (string s) h = tt
each P f (array ds) h = tt
each P f (object ms) h = each_member P f ms h.1

member_sorted : (k : List ℕ) (ms : Members) → AreMembersSorted ms → IfSome (get_member k ms) IsSorted
member_sorted k no_members h = tt
member_sorted k (member l d ms) h =
    by_order (λ o. IfSome o IsSorted) (slice_cmp nat_cmp k l) (get_member k ms) (Some d) (get_member k ms) (member_sorted k ms h.1) h.0 (member_sorted k ms h.1)

pub got_sorted : (k : List ℕ) (t : Data) → IsSorted t → IfSome (get k t) IsSorted
got_sorted k null h = tt
got_sorted k (boolean b) h = tt
got_sorted k (number n) h = tt
got_sorted k (string s) h = tt
got_sorted k (array ds) h = tt
got_sorted k (object ms) h = member_sorted k ms h.1

if_sorted : (P : Data → Type 0) → ((x : Data) → IsSorted x → P x) → (o : Option Data) → IfSome o IsSorted → IfSome o P
if_sorted P f None h = tt
if_sorted P f (Some x) h = f x h

item_apart : (path : List ℕ) (x : Data) → IsSorted x → IsItemApart path x
item_apart path x h = (apart x h, each IsMemberApart (λ name y s is. apart y s) x h)

-- in a sorted tree each name stands once
pub once_where_sorted : (t : Data) → IsSorted t → IsNamedOnce t
once_where_sorted t h = (
  apart t h,
  (
    if_sorted AreComponentsApart (λ x s. (apart x s, each IsApart (λ name y r. apart y r) x s)) (get (codes "components") t) (got_sorted (codes "components") t h),
    if_sorted ArePathsApart (λ x s. (apart x s, each IsItemApart item_apart x s)) (get (codes "paths") t) (got_sorted (codes "paths") t h),
  ),
)

pub written_once : (k : Kind) (t : Data) (d : Doc) → IsSorted t → read k t ≡ Some d → IsNamedOnce (write d)
written_once k t d h e = once_where_sorted (write d) (written_sorted k t d h e)

-- ---- trees of texts

sorted_if : (b : Bool) (bytes : List ℕ) (t : Data) → (if b then read_text bytes else None) ≡ Some t → IsSorted t
sorted_if true bytes t e = text_sorted bytes t e
sorted_if false bytes t e = cc

-- the tree of a text has the members of each object in the order of their names
pub text_tree_sorted : (bytes : List ℕ) (t : Data) → tree_of bytes ≡ Some t → IsSorted t
text_tree_sorted bytes t e = sorted_if (is_utf8 bytes) bytes t e
