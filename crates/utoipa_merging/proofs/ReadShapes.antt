-- What is read of a tree as a kind is of the kind, and is written no deeper than the tree.
use Rattle.std.proofs.Common.{◌≡◌, ◌≤◌, ◌⊎◌, inl, inr, ℕ, suc, ◌^◌, nat_lt, ℤ, pos, negsuc, List, [], ◌∷◌, Bool, true, false, cond, nat_cmp, not, codes, Option, Some, None, IfSome, option_map, option_and_then, refl, sym, true≢false, arith}
use Rattle.std.specs.List.{list_any, AllByRecursion}
use Rattle.std.specs.Cmp.Lexicographic.{slice_cmp}
use Rattle.std.proofs.lemmas.Option.{IfSome_then}
use Rattle.serde_json.specs.Data.{Num, Data, null, boolean, number, string, array, object, Items, no_items, item, Members, no_members, member, put, depth, items_depth, members_depth}
use Rattle.serde_json.specs.Find.{as_integer, as_u64}
use Rattle.utoipa_base.specs.Kinds.{ObjectType, reference_object, one_of_schema, all_of_schema, any_of_schema, array_schema, object_schema, type_word, known_format, Kind, text, flag, whole, numeral, any, word_of, version, list_of, map_of, ordered_map_of, entries_of, ref_or, named, schema, schema_type, schema_format, array_items, additional_properties, security_scheme, api_key, flows, Mark, required, optional, or_null, defaulted, Row}
use Rattle.utoipa_base.specs.Words.{is_word}
use Rattle.utoipa_base.specs.Version.{read_version, version_of, piece_numbers, pieces_after, is_version}
use Rattle.utoipa_base.specs.Choices.{chosen, scheme_types, api_key_places, flow_keys, schema_keywords, IsFlow, is_schema_type}
use Rattle.utoipa_base.specs.Docs.{Doc, whole_doc, int_doc, uint_doc, word_doc, types_doc, none_doc, some_doc, ref_doc, own_doc, schema_doc, tagged_doc, flow_doc, list_doc, map_doc, ordered_map_doc, entries_doc, table_doc, Docs, Entries, no_entries, entry}
use Rattle.utoipa_base.specs.Tables.{table, has_extensions}
use Rattle.utoipa_base.specs.Extensions.{is_extension, extension_members, extensions_of, some_if_any, members_or_none}
use Rattle.utoipa_base.specs.Reading.{both, both_entries, only_if, Part, part_is_null, part_reads, Parts, part_name, named_part, part, entry_parts, empty_doc, fits, read_rows, read_table, read_items, read_entries, is_named, read_schema, read_ref_or, text_at, read_alternative, read_tagged, read_api_key, read_scheme, first_that_fits, read_flow, read_flows, read_null, read_boolean, numeral_doc, read_number, read_word, read_format, read_string, read_array, read_object, reader, item_readers, parts, read}
use Rattle.utoipa_base.specs.Shape.{Place, value_of, option_of, flow_place, field_place, own_kind, choices_of, IsOf, ItemsOf, EntriesOf, RowsOf, Extends}
use Rattle.utoipa_base.specs.Writing.{write, write_items, write_entries, put_written, write_rows, left_out, put_unless, merge_member, merge_members, with_member}
use Rattle.utoipa_base.specs.ByName.{put_entry, put_entries, by_name}
use Rattle.utoipa_base.proofs.Results.{if_is, if_map, if_made, if_then, if_else, if_only, by_order}
use Rattle.utoipa_base.proofs.TableNames.{has_empty, may_be_empty, are_apart, first_empty, others_apart, table_apart}

-- ---- how deep what is written nests

zero_le : (n : ℕ) → 0 ≤ n
zero_le n = omega arith

same_le : (n : ℕ) → n ≤ n
same_le n = omega arith

-- members, with one put among them
pub put_depth : (k : List ℕ) (d : Data) (ms : Members) (n : ℕ) → depth d ≤ n → members_depth ms ≤ n → members_depth (put k d ms) ≤ n
put_depth k d no_members n g h = omega (arith, g)
put_depth k d (member l e ms) n g h =
    by_order (λ ns. members_depth ns ≤ n) (slice_cmp nat_cmp k l) (member k d (member l e ms)) (member l d ms) (member l e (put k d ms))
    (omega (arith, g, h)) (omega (arith, g, h)) (omega (arith, h, put_depth k d ms n g (omega (arith, h))))

-- members, with one put among them or left out
pub put_unless_depth : (b : Bool) (k : List ℕ) (d : Data) (ms : Members) (n : ℕ) → (b ≡ true) ⊎ (depth d ≤ n) → members_depth ms ≤ n → members_depth (put_unless b k d ms) ≤ n
put_unless_depth true k d ms n g h = h
put_unless_depth false k d ms n (inl out) h = absurd (true≢false (sym out))
put_unless_depth false k d ms n (inr g) h = put_depth k d ms n g h

-- a tree with one more text, where an object fits
with_text_depth : (name word : List ℕ) (t : Data) (n : ℕ) → depth t ≤ suc n → depth (with_member name (string word) t) ≤ suc n
with_text_depth name word null n h = h
with_text_depth name word (boolean b) n h = h
with_text_depth name word (number m) n h = h
with_text_depth name word (string s) n h = h
with_text_depth name word (array ds) n h = h
with_text_depth name word (object ms) n h =
    let put_below : members_depth (put name (string word) ms) ≤ n = put_depth name (string word) ms n (zero_le n) (omega (arith, h)) in
    omega (arith, put_below)

-- a member before the rest of its list and among the members of another
merge_member_depth : (k : List ℕ) (d : Data) (rest : Members → Members) (n : ℕ) → depth d ≤ n → ((ms : Members) → members_depth ms ≤ n → members_depth (rest ms) ≤ n) → (ms : Members)
    → members_depth ms ≤ n → members_depth (merge_member k d rest ms) ≤ n
merge_member_depth k d rest n g f no_members h = omega (arith, g, f no_members h)
merge_member_depth k d rest n g f (member l e ms) h =
    by_order (λ ns. members_depth ns ≤ n) (slice_cmp nat_cmp k l) (member k d (rest (member l e ms))) (member k d (rest ms)) (member l e (merge_member k d rest ms))
    (omega (arith, g, f (member l e ms) h)) (omega (arith, g, f ms (omega (arith, h)))) (omega (arith, h, merge_member_depth k d rest n g f ms (omega (arith, h))))

-- the members of both
pub merge_members_depth : (es ms : Members) (n : ℕ) → members_depth es ≤ n → members_depth ms ≤ n → members_depth (merge_members es ms) ≤ n
merge_members_depth no_members ms n g h = h
merge_members_depth (member k d es) ms n g h = merge_member_depth k d (merge_members es) n (omega (arith, g)) (λ ns q. merge_members_depth es ns n (omega (arith, g)) q) ms h

-- entries that are put one after the other
put_written_depth : (es : Entries) (ms : Members) (n : ℕ) → members_depth (write_entries es) ≤ n → members_depth ms ≤ n → members_depth (put_written es ms) ≤ n
unfolding write_entries put_written
put_written_depth no_entries ms n g h = h
put_written_depth (entry k d es) ms n g h = put_written_depth es (put k (write d) ms) n (omega (arith, g)) (put_depth k (write d) ms n (omega (arith, g)) h)

-- ---- what fits

-- a document is of the place, and nests at most this deep
abbrev Fits : ℕ → Place → Doc → Type 0
Fits n p d = IsOf d p × (depth (write d) ≤ n)

-- what a reader reads fits
abbrev ReadsFit : ℕ → (Kind → Option Doc) → Type 0
ReadsFit n f = (k : Kind) → IfSome (f k) (Fits n (value_of k))

-- what the items' readers read fits
abbrev ItemsFit : ℕ → List (Kind → Option Doc) → Type 0
ItemsFit n [] = Unit {0}
ItemsFit n (r ∷ rs) = ReadsFit n r × ItemsFit n rs

-- what the members' readers read fits
abbrev PartsFit : ℕ → Parts → Type 0
PartsFit n [] = Unit {0}
PartsFit n (p ∷ ps) = ReadsFit n (part_reads (named_part p)) × PartsFit n ps

-- the documents of a list fit
abbrev DocsFit : ℕ → Kind → Docs → Type 0
DocsFit n k ds = ItemsOf ds k × (items_depth (write_items ds) ≤ n)

-- the entries of a map fit
abbrev EntriesFit : ℕ → Place → Entries → Type 0
EntriesFit n p es = EntriesOf es p × (members_depth (write_entries es) ≤ n)

-- a field fits, or is left out
abbrev FieldFits : ℕ → Mark → Kind → Doc → Type 0
FieldFits n m k d = IsOf d (field_place m k) × ((left_out m d ≡ true) ⊎ (depth (write d) ≤ n))

-- fields fit, among any members that do
abbrev RowsFit : ℕ → List Row → Docs → Type 0
RowsFit n rs ds = RowsOf ds rs × ((ms : Members) → members_depth ms ≤ n → members_depth (write_rows ds rs ms) ≤ n)

-- ---- trees that are neither arrays nor objects

-- what stands in the place of a reference
own_fits : (n : ℕ) (p : Place) (k : Kind) → own_kind p ≡ Some k → (o : Option Doc) → IfSome o (Fits n (value_of k)) → IfSome (option_map own_doc o) (Fits n p)
unfolding IsOf write
own_fits n p k is o h = if_map (Fits n (value_of k)) (Fits n p) own_doc (λ d g. ((k, is, g.0), g.1)) o h

-- null
null_fits : (n : ℕ) → ReadsFit n read_null
unfolding IsOf write
null_fits n any = (refl, zero_le n)
null_fits n schema_type = (refl, zero_le n)
null_fits n (ref_or k) = own_fits n (value_of (ref_or k)) k refl (read_null k) (null_fits n k)
null_fits n k = tt

-- true or false
boolean_fits : (n : ℕ) (b : Bool) → ReadsFit n (read_boolean b)
unfolding IsOf write
boolean_fits n b flag = (refl, zero_le n)
boolean_fits n b any = (refl, zero_le n)
boolean_fits n b additional_properties = (refl, zero_le n)
boolean_fits n true array_items = tt
boolean_fits n false array_items = (refl, zero_le n)
boolean_fits n b (ref_or k) = own_fits n (value_of (ref_or k)) k refl (read_boolean b k) (boolean_fits n b k)
boolean_fits n b k = tt

-- an unsigned number, by whether it is an i64
uint_fits : (n : ℕ) (b : Bool) (m : ℕ) → Fits n (value_of numeral) (cond b (int_doc (pos m)) (uint_doc m))
unfolding IsOf write
uint_fits n true m = (refl, zero_le n)
uint_fits n false m = (refl, zero_le n)

-- an Int or a UInt
int_fits : (n : ℕ) (z : ℤ) → Fits n (value_of numeral) (numeral_doc z)
unfolding IsOf write
int_fits n (pos m) = uint_fits n (nat_lt m (2 ^ 63)) m
int_fits n (negsuc m) = (refl, zero_le n)

-- a number
number_fits : (n : ℕ) (m : Num) → ReadsFit n (read_number m)
unfolding IsOf write
number_fits n m whole = if_made (Fits n (value_of whole)) whole_doc (λ x. (refl, zero_le n)) (as_u64 m)
number_fits n m numeral = if_made (Fits n (value_of numeral)) numeral_doc (int_fits n) (as_integer m)
number_fits n m any = (refl, zero_le n)
number_fits n m (ref_or k) = own_fits n (value_of (ref_or k)) k refl (read_number m k) (number_fits n m k)
number_fits n m k = tt

-- a word, in a place of its vocabulary
word_fits : (n : ℕ) (p : Place) (b : Bool) (s : List ℕ) → (b ≡ true → IsOf (word_doc s) p) → IfSome (read_word b s) (Fits n p)
unfolding write
word_fits n p true s h = (h refl, zero_le n)
word_fits n p false s h = tt

-- a format
format_fits : (n : ℕ) (b : Bool) (s : List ℕ) → is_word known_format s ≡ b → Fits n (value_of schema_format) (read_format b s)
unfolding IsOf write
format_fits n true s is = (is, zero_le n)
format_fits n false s is = (refl, zero_le n)

-- what a version is read as is a version
version_by : (b c : Bool) → IfSome (cond b (Some (codes "3.1.0")) (cond c (Some (codes "3.2.0")) None)) (λ s. is_version s ≡ true)
version_by true c = refl
version_by false true = refl
version_by false false = tt

version_is : (zs : List ℤ) → IfSome (version_of zs) (λ s. is_version s ≡ true)
version_is [] = tt
version_is (a ∷ []) = tt
version_is (a ∷ b ∷ []) = tt
version_is (a ∷ b ∷ c ∷ []) = version_by _ _
version_is (a ∷ b ∷ c ∷ d ∷ zs) = tt

version_fits : (n : ℕ) (s : List ℕ) → IfSome (option_map word_doc (read_version s)) (Fits n (value_of version))
unfolding IsOf write read_version
version_fits n s = if_map (λ w. is_version w ≡ true) (Fits n (value_of version)) word_doc (λ w h. (h, zero_le n)) (version_of (piece_numbers (pieces_after [] s))) (version_is (piece_numbers (pieces_after [] s)))

-- a text
string_fits : (n : ℕ) (s : List ℕ) → ReadsFit n (read_string s)
unfolding IsOf write
string_fits n s text = (refl, zero_le n)
string_fits n s any = (refl, zero_le n)
string_fits n s (word_of v) = word_fits n (value_of (word_of v)) (is_word v s) s (λ is. is)
string_fits n s version = version_fits n s
string_fits n s schema_type = word_fits n (value_of schema_type) (is_word type_word s) s (λ is. is)
string_fits n s schema_format = format_fits n (is_word known_format s) s refl
string_fits n s (ref_or k) = own_fits n (value_of (ref_or k)) k refl (read_string s k) (string_fits n s k)
string_fits n s k = tt

-- ---- lists and maps

-- one more document of a list
both_fit : (n : ℕ) (k : Kind) (o : Option Doc) (p : Option Docs) → IfSome o (Fits n (value_of k)) → IfSome p (DocsFit n k) → IfSome (both o p) (DocsFit n k)
unfolding ItemsOf write_items
both_fit n k None p g h = tt
both_fit n k (Some d) None g h = tt
both_fit n k (Some d) (Some ds) g h = ((g.0, h.0), omega (arith, g.1, h.1))

-- one more entry of a map
both_entries_fit : (n : ℕ) (place : Place) (name : List ℕ) (o : Option Doc) (p : Option Entries) → IfSome o (Fits n place) → IfSome p (EntriesFit n place) → IfSome (both_entries name o p) (EntriesFit n place)
unfolding EntriesOf write_entries
both_entries_fit n place name None p g h = tt
both_entries_fit n place name (Some d) None g h = tt
both_entries_fit n place name (Some d) (Some es) g h = ((g.0, h.0), omega (arith, g.1, h.1))

-- the items of an array
items_fit : (n : ℕ) (k : Kind) (rs : List (Kind → Option Doc)) → ItemsFit n rs → IfSome (read_items k rs) (DocsFit n k)
unfolding ItemsOf write_items
items_fit n k [] h = (tt, zero_le n)
items_fit n k (r ∷ rs) h = both_fit n k (r k) (read_items k rs) (h.0 k) (items_fit n k rs h.1)

-- the members of a map
entries_fit : (n : ℕ) (k : Kind) (ps : Parts) → PartsFit n ps → IfSome (read_entries k ps) (EntriesFit n (value_of k))
unfolding EntriesOf write_entries
entries_fit n k [] h = (tt, zero_le n)
entries_fit n k (p ∷ ps) h =
    both_entries_fit n (value_of k) (part_name p) (part_reads (named_part p) k) (read_entries k ps) (h.0 k) (entries_fit n k ps h.1)

-- entries, with one put among them
put_entry_fits : (n : ℕ) (p : Place) (k : List ℕ) (d : Doc) (es : Entries) → Fits n p d → EntriesFit n p es → EntriesFit n p (put_entry k d es)
unfolding EntriesOf write_entries
put_entry_fits n p k d no_entries g h = ((g.0, tt), omega (arith, g.1))
put_entry_fits n p k d (entry l e es) g h =
    let later : EntriesFit n p (put_entry k d es) = put_entry_fits n p k d es g (h.0.1, omega (arith, h.1)) in
    by_order (EntriesFit n p) (slice_cmp nat_cmp k l) (entry k d (entry l e es)) (entry l d es) (entry l e (put_entry k d es))
    ((g.0, h.0), omega (arith, g.1, h.1)) ((g.0, h.0.1), omega (arith, g.1, h.1)) ((h.0.0, later.0), omega (arith, h.1, later.1))

-- entries, with others put among them
put_entries_fit : (n : ℕ) (p : Place) (es fs : Entries) → EntriesFit n p es → EntriesFit n p fs → EntriesFit n p (put_entries es fs)
unfolding EntriesOf write_entries
put_entries_fit n p no_entries fs g h = h
put_entries_fit n p (entry k d es) fs g h = put_entries_fit n p es (put_entry k d fs) (g.0.1, omega (arith, g.1)) (put_entry_fits n p k d fs (g.0.0, omega (arith, g.1)) h)

-- the members that are no extensions, with one more
kept_parts : (n : ℕ) (b : Bool) (p : List ℕ × Part) (ps : Parts) → ReadsFit n (part_reads (named_part p)) → PartsFit n ps → PartsFit n (cond b ps (p ∷ ps))
kept_parts n true p ps g h = h
kept_parts n false p ps g h = (g, h)

-- the members that are no extensions
entry_parts_fit : (n : ℕ) (ps : Parts) → PartsFit n ps → PartsFit n (entry_parts ps)
entry_parts_fit n [] h = tt
entry_parts_fit n (p ∷ ps) h = kept_parts n (is_extension (part_name p)) p (entry_parts ps) h.0 (entry_parts_fit n ps h.1)

-- ---- rows

-- the member at a name
part_fits : (n : ℕ) (name : List ℕ) (ps : Parts) → PartsFit n ps → IfSome (part name ps) (λ m. ReadsFit n (part_reads m))
part_fits n name [] h = tt
part_fits n name (p ∷ ps) h =
    by_order (λ o. IfSome o (λ m. ReadsFit n (part_reads m))) (slice_cmp nat_cmp name (part_name p)) (part name ps) (Some (named_part p)) (part name ps) (part_fits n name ps h.1) h.0 (part_fits n name ps h.1)

-- what an absent member is
empty_fits : (n : ℕ) (k : Kind) → has_empty k ≡ true → FieldFits n defaulted k (empty_doc k)
unfolding IsOf ItemsOf EntriesOf
empty_fits n text h = (refl, inl refl)
empty_fits n flag h = (refl, inl refl)
empty_fits n (list_of k) h = ((k, refl, tt), inl refl)
empty_fits n (map_of k) h = ((value_of k, refl, tt), inl refl)
empty_fits n (ordered_map_of k) h = ((k, refl, tt), inl refl)
empty_fits n schema_type h = (refl, inl refl)
empty_fits n k h = absurd (true≢false (sym h))

-- a field that may be absent, by whether its member is null
optional_fits : (n : ℕ) (k : Kind) (b : Bool) (o : Option Doc) → IfSome o (Fits n (value_of k)) → IfSome (cond b (Some none_doc) (option_map some_doc o)) (Fits n (option_of k))
unfolding IsOf write
optional_fits n k true o h = ((k, refl), zero_le n)
optional_fits n k false o h = if_map (Fits n (value_of k)) (Fits n (option_of k)) some_doc (λ d g. ((k, refl, g.0), g.1)) o h

-- what fits is a field that does
field_of_fits : (n : ℕ) (m : Mark) (k : Kind) (o : Option Doc) → IfSome o (Fits n (field_place m k)) → IfSome o (FieldFits n m k)
field_of_fits n m k o h = IfSome_then o h (λ d g. (g.0, inr g.1))

-- the field of a row
field_fits : (n : ℕ) (m : Mark) (k : Kind) (o : Option Part) → may_be_empty m k ≡ true → IfSome o (λ p. ReadsFit n (part_reads p)) → IfSome (fits m k o) (FieldFits n m k)
unfolding IsOf write
field_fits n required k None e h = tt
field_fits n required k (Some p) e h = field_of_fits n required k (part_reads p k) (h k)
field_fits n optional k None e h = ((k, refl), inr (zero_le n))
field_fits n optional k (Some p) e h =
    field_of_fits n optional k (cond (part_is_null p) (Some none_doc) (option_map some_doc (part_reads p k))) (optional_fits n k (part_is_null p) (part_reads p k) (h k))
field_fits n or_null k None e h = ((k, refl), inr (zero_le n))
field_fits n or_null k (Some p) e h =
    field_of_fits n or_null k (cond (part_is_null p) (Some none_doc) (option_map some_doc (part_reads p k))) (optional_fits n k (part_is_null p) (part_reads p k) (h k))
field_fits n defaulted k None e h = empty_fits n k e
field_fits n defaulted k (Some p) e h = field_of_fits n defaulted k (part_reads p k) (h k)

-- one more field
both_rows_fit : (n : ℕ) (r : Row) (rs : List Row) (o : Option Doc) (p : Option Docs) → IfSome o (FieldFits n r.mark r.kind) → IfSome p (RowsFit n rs) → IfSome (both o p) (RowsFit n (r ∷ rs))
unfolding RowsOf write_rows
both_rows_fit n r rs None p g h = tt
both_rows_fit n r rs (Some d) None g h = tt
both_rows_fit n r rs (Some d) (Some ds) g h = ((g.0, h.0), λ ms below. h.1 _ (put_unless_depth (left_out r.mark d) r.name (write d) ms n g.1 below))

-- the fields of a table's rows
rows_fit : (n : ℕ) (rs : List Row) (ps : Parts) → are_apart rs ≡ true → PartsFit n ps → IfSome (read_rows rs ps) (RowsFit n rs)
unfolding RowsOf write_rows
rows_fit n [] ps a h = (tt, λ ms below. below)
rows_fit n (r ∷ rs) ps a h =
    both_rows_fit n r rs (fits r.mark r.kind (part r.name ps)) (read_rows rs ps) (field_fits n r.mark r.kind (part r.name ps) (first_empty r rs a) (part_fits n r.name ps h)) (rows_fit n rs ps (others_apart r rs a) h)

-- the extensions among the members, with one more member
kept_depth : (n : ℕ) (b : Bool) (k : List ℕ) (d : Data) (ms : Members) → depth d ≤ n → members_depth ms ≤ n → members_depth (cond b (member k d ms) ms) ≤ n
kept_depth n true k d ms g h = omega (arith, g, h)
kept_depth n false k d ms g h = h

-- the extensions among the members
pub extension_members_depth : (n : ℕ) (ms : Members) → members_depth ms ≤ n → members_depth (extension_members ms) ≤ n
extension_members_depth n no_members h = h
extension_members_depth n (member k d ms) h =
    kept_depth n (is_extension k) k d (extension_members ms) (omega (arith, h)) (extension_members_depth n ms (omega (arith, h)))

-- the members, where there is one
some_if_any_depth : (n : ℕ) (ms : Members) → members_depth ms ≤ n → members_depth (members_or_none (some_if_any ms)) ≤ n
some_if_any_depth n no_members h = h
some_if_any_depth n (member k d ms) h = h

-- the extensions of an object
extensions_depth : (n : ℕ) (kept : Bool) (ms : Members) → members_depth ms ≤ n → members_depth (members_or_none (extensions_of kept ms)) ≤ n
extensions_depth n true ms h = some_if_any_depth n (extension_members ms) (extension_members_depth n ms h)
extensions_depth n false ms h = zero_le n

-- only an object whose type keeps extensions has some
extends_if_any : (ms : Members) → Extends true (some_if_any ms)
extends_if_any no_members = tt
extends_if_any (member k d ms) = refl

extends : (kept : Bool) (ms : Members) → Extends kept (extensions_of kept ms)
extends true ms = extends_if_any (extension_members ms)
extends false ms = tt

-- an object of a type
table_fits : (n : ℕ) (t : ObjectType) (ms : Members) (ps : Parts) → members_depth ms ≤ n → PartsFit n ps → IfSome (read_table t ms ps) (Fits (suc n) (value_of (named t)))
unfolding IsOf write
table_fits n t ms ps g h =
    if_map (RowsFit n (table t)) (Fits (suc n) (value_of (named t))) (λ ds. table_doc t ds (extensions_of (has_extensions t) ms))
    (λ ds r. ((refl, r.0, extends (has_extensions t) ms), (let below : members_depth (write_rows ds (table t) (members_or_none (extensions_of (has_extensions t) ms))) ≤ n = r.1 _ (extensions_depth n (has_extensions t) ms g) in omega (arith, below)))) (read_rows (table t) ps)
    (rows_fit n (table t) ps (table_apart t) h)

-- ---- choices

-- an alternative of a schema
abbrev IsAlternative : ℕ → Doc → Type 0
IsAlternative n d = (t : ObjectType) × (is_schema_type t ≡ true) × Fits n (value_of (named t)) d

alternative_of : (n : ℕ) (t : ObjectType) → is_schema_type t ≡ true → (o : Option Doc) → IfSome o (Fits n (value_of (named t))) → IfSome o (IsAlternative n)
alternative_of n t is o h = IfSome_then o h (λ d g. (t, is, g))

-- a schema
schema_fits : (n : ℕ) (ms : Members) (ps : Parts) → members_depth ms ≤ n → PartsFit n ps → IfSome (read_schema ms ps) (Fits (suc n) (value_of schema))
unfolding IsOf write
schema_fits n ms ps g h =
    let typed = is_named (codes "type") ms in
    let bare = not (list_any (λ name. is_named name ms) schema_keywords) in
    let Alternative : Doc → Type 0 = IsAlternative (suc n) in
    if_map Alternative (Fits (suc n) (value_of schema)) schema_doc (λ d a. ((a.0, refl, a.1, a.2.0), a.2.1)) _
    (if_else Alternative _ _ (alternative_of (suc n) one_of_schema refl _ (table_fits n one_of_schema ms ps g h))
    (if_else Alternative _ _ (alternative_of (suc n) all_of_schema refl _ (table_fits n all_of_schema ms ps g h))
    (if_else Alternative _ _ (alternative_of (suc n) any_of_schema refl _ (table_fits n any_of_schema ms ps g h))
    (if_else Alternative _ _ (alternative_of (suc n) array_schema refl _ (table_fits n array_schema ms ps g h))
    (if_else Alternative (only_if typed (read_table object_schema ms ps)) (only_if bare (read_table object_schema ms ps))
    (if_only Alternative typed _ (alternative_of (suc n) object_schema refl _ (table_fits n object_schema ms ps g h)))
    (if_only Alternative bare _ (alternative_of (suc n) object_schema refl _ (table_fits n object_schema ms ps g h))))))))

-- a reference, or else what the place holds
ref_or_fits : (n : ℕ) (p : Place) (k : Kind) → own_kind p ≡ Some k → (own : Option Doc) (ms : Members) (ps : Parts) → members_depth ms ≤ n → PartsFit n ps → IfSome own (Fits (suc n) (value_of k))
    → IfSome (read_ref_or k own ms ps) (Fits (suc n) p)
unfolding IsOf write
ref_or_fits n p k is own ms ps g h o =
    if_else (Fits (suc n) p) _ _
    (if_map (Fits (suc n) (value_of (named reference_object))) (Fits (suc n) p) (ref_doc k) (λ d f. ((is, f.0), f.1)) (read_table reference_object ms ps) (table_fits n reference_object ms ps g h))
    (own_fits (suc n) p k is own o)

-- an alternative that is a type
alternative_fits : (n : ℕ) (ms : Members) (ps : Parts) → members_depth ms ≤ n → PartsFit n ps → ReadsFit (suc n) (read_alternative ms ps)
alternative_fits n ms ps g h (named t) = table_fits n t ms ps g h
alternative_fits n ms ps g h k = tt

-- the alternative that a word chooses
chosen_fits : (n : ℕ) (p : Place) (name word : List ℕ) (choices : List (List ℕ × Kind)) (f : Kind → Option Doc) → choices_of p ≡ Some (name, choices) → ReadsFit (suc n) f → (o : Option Kind) → chosen word choices ≡ o
    → IfSome (option_and_then (λ k. option_map (tagged_doc name word) (f k)) o) (Fits (suc n) p)
unfolding IsOf write
chosen_fits n p name word choices f is h None at = tt
chosen_fits n p name word choices f is h (Some k) at =
    if_map (Fits (suc n) (value_of k)) (Fits (suc n) p) (tagged_doc name word) (λ d g. ((choices, k, is, at, g.0), with_text_depth name word (write d) n g.1)) (f k) (h k)

-- the alternative that a member chooses
tagged_fits : (n : ℕ) (p : Place) (name : List ℕ) (choices : List (List ℕ × Kind)) (f : Kind → Option Doc) (ms : Members) → choices_of p ≡ Some (name, choices) → ReadsFit (suc n) f
    → IfSome (read_tagged name choices f ms) (Fits (suc n) p)
tagged_fits n p name choices f ms is h = if_then (Fits (suc n) p) _ (λ word. chosen_fits n p name word choices f is h (chosen word choices) refl) (text_at name ms)

-- an API key
api_key_fits : (n : ℕ) (ms : Members) (ps : Parts) → members_depth ms ≤ n → PartsFit n ps → IfSome (read_api_key ms ps) (Fits (suc n) (value_of api_key))
api_key_fits n ms ps g h = tagged_fits n (value_of api_key) (codes "in") api_key_places (read_alternative ms ps) ms refl (alternative_fits n ms ps g h)

-- an alternative of a security scheme
scheme_fits : (n : ℕ) (ms : Members) (ps : Parts) → members_depth ms ≤ n → PartsFit n ps → ReadsFit (suc n) (read_scheme ms ps)
scheme_fits n ms ps g h api_key = api_key_fits n ms ps g h
scheme_fits n ms ps g h k = alternative_fits n ms ps g h k

-- a flow of some type
abbrev IsFlowOf : ℕ → Doc → Type 0
IsFlowOf n d = (t : ObjectType) × IsFlow t × Fits n (value_of (named t)) d

-- the first type that fits, of types that are flows
first_fits : (n : ℕ) (cs : List (List ℕ × ObjectType)) (f : Kind → Option Doc) → AllByRecursion (λ c. IsFlow c.1) cs → ReadsFit n f → IfSome (first_that_fits cs f) (IsFlowOf n)
first_fits n [] f each h = tt
first_fits n (c ∷ cs) f each h =
    if_else (IsFlowOf n) (f (named c.1)) (first_that_fits cs f) (IfSome_then (f (named c.1)) (h (named c.1)) (λ d g. (c.1, each.0, g))) (first_fits n cs f each.1 h)

each_is_flow : AllByRecursion (λ c. IsFlow c.1) flow_keys
each_is_flow =
    ((codes "implicit", refl), ((codes "password", refl), ((codes "clientCredentials", refl), ((codes "authorizationCode", refl), ((codes "deviceAuthorization", refl), tt)))))

-- a flow, under its key
flow_fits : (n : ℕ) (key : List ℕ) (o : Option ObjectType) (f : Kind → Option Doc) → chosen key flow_keys ≡ o → ReadsFit n f → IfSome (read_flow o f) (Fits n flow_place)
unfolding IsOf write
flow_fits n key (Some t) f is h = if_map (Fits n (value_of (named t))) (Fits n flow_place) flow_doc (λ d g. ((t, refl, (key, is), g.0), g.1)) (f (named t)) (h (named t))
flow_fits n key None f is h = if_map (IsFlowOf n) (Fits n flow_place) flow_doc (λ d g. ((g.0, refl, g.1, g.2.0), g.2.1)) (first_that_fits flow_keys f) (first_fits n flow_keys f each_is_flow h)

-- the flows of an object
flows_fit : (n : ℕ) (ps : Parts) → PartsFit n ps → IfSome (read_flows ps) (EntriesFit n flow_place)
unfolding EntriesOf write_entries
flows_fit n [] h = (tt, zero_le n)
flows_fit n (p ∷ ps) h =
    let f = part_reads (named_part p) in
    let t = chosen (part_name p) flow_keys in
    both_entries_fit n flow_place (part_name p) (read_flow t f) (read_flows ps) (flow_fits n (part_name p) t f refl h.0) (flows_fit n ps h.1)

-- ---- arrays and objects

-- an array
array_fits : (n : ℕ) (ds : Items) (rs : List (Kind → Option Doc)) → items_depth ds ≤ n → ItemsFit n rs → ReadsFit (suc n) (read_array ds rs)
unfolding IsOf write
array_fits n ds rs g h any = (refl, omega (arith, g))
array_fits n ds rs g h (list_of k) = if_map (DocsFit n k) (Fits (suc n) (value_of (list_of k))) list_doc (λ x f. ((k, refl, f.0), omega (arith, f.1))) (read_items k rs) (items_fit n k rs h)
array_fits n ds rs g h schema_type =
    if_map (DocsFit n (word_of type_word)) (Fits (suc n) (value_of schema_type)) (λ ws. types_doc (list_doc ws)) (λ x f. ((refl, (word_of type_word, refl, f.0)), omega (arith, f.1))) (read_items (word_of type_word) rs)
    (items_fit n (word_of type_word) rs h)
array_fits n ds rs g h (ref_or k) = own_fits (suc n) (value_of (ref_or k)) k refl (read_array ds rs k) (array_fits n ds rs g h k)
array_fits n ds rs g h k = tt

-- an object
object_fits : (n : ℕ) (ms : Members) (ps : Parts) → members_depth ms ≤ n → PartsFit n ps → ReadsFit (suc n) (read_object ms ps)
unfolding IsOf EntriesOf write write_entries
object_fits n ms ps g h any = (refl, omega (arith, g))
object_fits n ms ps g h (map_of k) =
    if_map (EntriesFit n (value_of k)) (Fits (suc n) (value_of (map_of k))) map_doc (λ x f. ((value_of k, refl, f.0), omega (arith, f.1))) (read_entries k ps) (entries_fit n k ps h)
object_fits n ms ps g h (ordered_map_of k) =
    if_map (EntriesFit n (value_of k)) (Fits (suc n) (value_of (ordered_map_of k))) (λ es. ordered_map_doc (by_name es))
    (λ es f.
    let put : EntriesFit n (value_of k) (by_name es) = put_entries_fit n (value_of k) es no_entries f (tt, zero_le n) in
    let below : members_depth (put_written (by_name es) no_members) ≤ n = put_written_depth (by_name es) no_members n put.1 (zero_le n) in
    ((k, refl, put.0), omega (arith, below))) (read_entries k ps) (entries_fit n k ps h)
object_fits n ms ps g h (entries_of k) =
    if_map (EntriesFit n (value_of k)) (Fits (suc n) (value_of (entries_of k))) (λ es. entries_doc es (extensions_of true ms))
    (λ es f.
    let below : members_depth (merge_members (write_entries es) (members_or_none (extensions_of true ms))) ≤ n = merge_members_depth (write_entries es) _ n f.1 (extensions_depth n true ms g) in
    ((k, refl, f.0), omega (arith, below))) (read_entries k (entry_parts ps)) (entries_fit n k (entry_parts ps) (entry_parts_fit n ps h))
object_fits n ms ps g h (ref_or k) = ref_or_fits n (value_of (ref_or k)) k refl (read_object ms ps k) ms ps g h (object_fits n ms ps g h k)
object_fits n ms ps g h (named t) = table_fits n t ms ps g h
object_fits n ms ps g h schema = schema_fits n ms ps g h
object_fits n ms ps g h array_items = ref_or_fits n (value_of array_items) schema refl (read_schema ms ps) ms ps g h (schema_fits n ms ps g h)
object_fits n ms ps g h additional_properties = ref_or_fits n (value_of additional_properties) schema refl (read_schema ms ps) ms ps g h (schema_fits n ms ps g h)
object_fits n ms ps g h security_scheme = tagged_fits n (value_of security_scheme) (codes "type") scheme_types (read_scheme ms ps) ms refl (scheme_fits n ms ps g h)
object_fits n ms ps g h api_key = api_key_fits n ms ps g h
object_fits n ms ps g h flows = if_map (EntriesFit n flow_place) (Fits (suc n) (value_of flows)) map_doc (λ x f. ((flow_place, refl, f.0), omega (arith, f.1))) (read_flows ps) (flows_fit n ps h)
object_fits n ms ps g h k = tt

-- what fits fits deeper too
deeper : (m n : ℕ) → m ≤ n → (f : Kind → Option Doc) → ReadsFit m f → ReadsFit n f
deeper m n le f h k = IfSome_then (f k) (h k) (λ d g. (g.0, omega (arith, le, g.1)))

mutual
  unfolding reader item_readers parts

  -- what is read of a tree
  tree_fits : (t : Data) → ReadsFit (depth t) (reader t)
  tree_fits null = null_fits 0
  tree_fits (boolean b) = boolean_fits 0 b
  tree_fits (number n) = number_fits 0 n
  tree_fits (string s) = string_fits 0 s
  tree_fits (array ds) = array_fits (items_depth ds) ds (item_readers ds) (same_le (items_depth ds)) (item_readers_fit ds (items_depth ds) (same_le (items_depth ds)))
  tree_fits (object ms) = object_fits (members_depth ms) ms (parts ms) (same_le (members_depth ms)) (parts_fit ms (members_depth ms) (same_le (members_depth ms)))

  -- what is read of items
  item_readers_fit : (ds : Items) (n : ℕ) → items_depth ds ≤ n → ItemsFit n (item_readers ds)
  item_readers_fit no_items n h = tt
  item_readers_fit (item d ds) n h = (deeper (depth d) n (omega (arith, h)) (reader d) (tree_fits d), item_readers_fit ds n (omega (arith, h)))

  -- what is read of members
  parts_fit : (ms : Members) (n : ℕ) → members_depth ms ≤ n → PartsFit n (parts ms)
  parts_fit no_members n h = tt
  parts_fit (member k d ms) n h = (deeper (depth d) n (omega (arith, h)) (reader d) (tree_fits d), parts_fit ms n (omega (arith, h)))

-- what is read as a kind is of the kind
pub read_of_kind : (k : Kind) (t : Data) (d : Doc) → read k t ≡ Some d → IsOf d (value_of k)
read_of_kind k t d is = (if_is (Fits (depth t) (value_of k)) (reader t k) d (tree_fits t k) is).0

-- and is written no deeper than the tree
pub read_depth : (k : Kind) (t : Data) (d : Doc) → read k t ≡ Some d → depth (write d) ≤ depth t
read_depth k t d is = (if_is (Fits (depth t) (value_of k)) (reader t k) d (tree_fits t k) is).1
