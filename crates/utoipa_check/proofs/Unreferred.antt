-- What is read of an object without a member of a name, such as `$ref`, is written without a text under that name.
use Rattle.std.proofs.Common.{◌≡◌, ◌⊎◌, inl, inr, ℕ, List, [], ◌∷◌, Bool, true, false, not, cond, nat_cmp, codes, Option, Some, None, IfSome, option_map, option_and_then, is_some, refl, sym, ap, subst, ◌∙◌, true≢false, Ordering, Less, Equal, Greater}
use Rattle.std.proofs.lemmas.Map.Text.{is_eq-slice_cmp}
use Rattle.std.proofs.lemmas.Option.{IfSome_then}
use Rattle.std.proofs.lemmas.Slice.Eq.{bytes_eq-Decides}
use Rattle.std.specs.Cmp.Lexicographic.{slice_cmp}
use Rattle.std.specs.Ordering.{is_eq, match_ordering}
use Rattle.std.specs.Str.{bytes_eq}
use Rattle.std.specs.List.{list_any}
use Rattle.serde_json.specs.Data.{Data, null, boolean, number, string, array, object, Members, no_members, member, put}
use Rattle.serde_json.specs.Find.{as_str, get, get_member}
use Rattle.serde_json.proofs.Views.{get_member-put, get_member-put_other}
use Rattle.utoipa_base.specs.Kinds.{ObjectType, reference_object, one_of_schema, all_of_schema, any_of_schema, array_schema, object_schema, Kind, text, flag, any, list_of, map_of, ordered_map_of, entries_of, ref_or, named, schema, schema_type, array_items, additional_properties, security_scheme, api_key, flows, Mark, required, optional, or_null, defaulted, Row}
use Rattle.utoipa_base.specs.Choices.{chosen, scheme_types, api_key_places, flow_keys, schema_keywords}
use Rattle.utoipa_base.specs.Docs.{Doc, ref_doc, own_doc, schema_doc, tagged_doc, map_doc, ordered_map_doc, entries_doc, table_doc, Docs, Entries, no_entries, entry}
use Rattle.utoipa_base.specs.ByName.{put_entry, put_entries, by_name}
use Rattle.utoipa_base.specs.Tables.{table, has_extensions}
use Rattle.utoipa_base.specs.Extensions.{is_extension, extension_members, extensions_of, some_if_any, members_or_none}
use Rattle.utoipa_base.specs.Reading.{both, both_entries, only_if, Part, Parts, part_name, named_part, part_reads, part, part_of, entry_parts, empty_doc, fits, read_rows, read_table, read_entries, is_named, read_schema, read_ref_or, text_at, read_alternative, read_tagged, read_api_key, read_scheme, read_flow, read_flows, read_object, parts}
use Rattle.utoipa_base.specs.Writing.{write, write_entries, put_written, write_rows, left_out, put_row, put_unless, merge_member, merge_members, with_member}
use Rattle.utoipa_base.proofs.BoolFacts.{apart}
use Rattle.utoipa_base.proofs.ByRows.{part-parts}
use Rattle.utoipa_base.proofs.Results.{if_map, if_then, if_else, if_only, by_order}
use Rattle.utoipa_base.proofs.Values.{get_member-skip}

-- ---- members without a name

-- no text stands there
abbrev pub NoText : Option Data → Type 0
NoText o = option_and_then as_str o ≡ None

-- no member has the name
abbrev Without : List ℕ → Members → Type 0
Without q no_members = Unit {0}
Without q (member k d ms) = (q ≡ k → ⊥) × Without q ms

lacking : (q : List ℕ) (ms : Members) → Without q ms → get_member q ms ≡ None
lacking q no_members h = refl
lacking q (member k d ms) h = get_member-skip q k d ms h.0 ∙ lacking q ms h.1

-- so no text stands there
textless : (q : List ℕ) (ms : Members) → Without q ms → NoText (get_member q ms)
textless q ms h = ap (option_and_then as_str) (lacking q ms h)

unequal : (o : Ordering) (u : Option Data) (d : Data) → match_ordering o u (Some d) u ≡ None → (is_eq o ≡ false) × (u ≡ None)
unequal Less u d e = (refl, e)
unequal Equal u d e = absurd (true≢false (ap is_some e))
unequal Greater u d e = (refl, e)

without : (q : List ℕ) (ms : Members) → get_member q ms ≡ None → Without q ms
without q no_members e = tt
without q (member k d ms) e =
    let h = unequal (slice_cmp nat_cmp q k) (get_member q ms) d e in
    (λ same. true≢false (sym ((bytes_eq-Decides q k).1 same) ∙ sym (is_eq-slice_cmp q k) ∙ h.0), without q ms h.1)

without_put : (q k : List ℕ) (d : Data) (ms : Members) → (q ≡ k → ⊥) → Without q ms → Without q (put k d ms)
without_put q k d no_members n h = (n, tt)
without_put q k d (member l e ms) n h =
    by_order (Without q) (slice_cmp nat_cmp k l) (member k d (member l e ms)) (member l d ms) (member l e (put k d ms)) (n, h) h (h.0, without_put q k d ms n h.1)

without_kept : (q : List ℕ) (b : Bool) (k : List ℕ) (d : Data) (ms : Members) → (q ≡ k → ⊥) → Without q ms → Without q (cond b (member k d ms) ms)
without_kept q true k d ms n h = (n, h)
without_kept q false k d ms n h = h

without_extensions : (q : List ℕ) (ms : Members) → Without q ms → Without q (extension_members ms)
without_extensions q no_members h = tt
without_extensions q (member k d ms) h = without_kept q (is_extension k) k d (extension_members ms) h.0 (without_extensions q ms h.1)

without_some : (q : List ℕ) (ms : Members) → Without q ms → Without q (members_or_none (some_if_any ms))
without_some q no_members h = tt
without_some q (member k d ms) h = h

without_any : (q : List ℕ) (kept : Bool) (ms : Members) → Without q ms → Without q (members_or_none (extensions_of kept ms))
without_any q true ms h = without_some q (extension_members ms) (without_extensions q ms h)
without_any q false ms h = tt

without_member : (q k : List ℕ) (d : Data) (rest : Members → Members) → (q ≡ k → ⊥) → ((ms : Members) → Without q ms → Without q (rest ms)) → (ms : Members) → Without q ms → Without q (merge_member k d rest ms)
without_member q k d rest n f no_members h = (n, f no_members tt)
without_member q k d rest n f (member l e ms) h =
    by_order (Without q) (slice_cmp nat_cmp k l) (member k d (rest (member l e ms))) (member k d (rest ms)) (member l e (merge_member k d rest ms))
    (n, f (member l e ms) h) (n, f ms h.1) (h.0, without_member q k d rest n f ms h.1)

without_merged : (q : List ℕ) (es ms : Members) → Without q es → Without q ms → Without q (merge_members es ms)
without_merged q no_members ms g h = h
without_merged q (member k d es) ms g h = without_member q k d (merge_members es) g.0 (λ ns x. without_merged q es ns g.1 x) ms h

-- ---- rows

-- a field is left out, or is no text
abbrev Harmless : Mark → Doc → Type 0
Harmless m d = (left_out m d ≡ true) ⊎ (as_str (write d) ≡ None)

empty_harmless : (k : Kind) → Harmless defaulted (empty_doc k)
unfolding write
empty_harmless text = inl refl
empty_harmless flag = inl refl
empty_harmless (list_of k) = inl refl
empty_harmless (map_of k) = inl refl
empty_harmless (ordered_map_of k) = inl refl
empty_harmless schema_type = inl refl
empty_harmless k = inr refl

-- the field of an absent member
absent_harmless : (m : Mark) (k : Kind) → IfSome (fits m k None) (Harmless m)
unfolding write
absent_harmless required k = tt
absent_harmless optional k = inl refl
absent_harmless or_null k = inr refl
absent_harmless defaulted k = empty_harmless k

put_other : (q k : List ℕ) (e : Data) (ms : Members) (b : Bool) → (q ≡ k → ⊥) → get_member q (put_unless b k e ms) ≡ get_member q ms
put_other q k e ms true other = refl
put_other q k e ms false other = get_member-put_other q k e ms other

put_same : (k : List ℕ) (e : Data) (ms : Members) (b : Bool) → (b ≡ true) ⊎ (as_str e ≡ None) → NoText (get_member k ms) → NoText (get_member k (put_unless b k e ms))
put_same k e ms true w h = h
put_same k e ms false w h = elim w [ inl x ↦ absurd (true≢false (sym x)) | inr x ↦ ap (option_and_then as_str) (get_member-put k e ms) ∙ x ]

-- a row's field, where it is harmless if it has the name
put_textless : (q : List ℕ) (r : Row) (d : Doc) (ms : Members) (b : Bool) → bytes_eq q r.name ≡ b → (q ≡ r.name → Harmless r.mark d) → NoText (get_member q ms) → NoText (get_member q (put_row r d (write d) ms))
put_textless q r d ms true is g h =
    let same = (bytes_eq-Decides q r.name).0 is in
    subst (λ n. NoText (get_member n (put_row r d (write d) ms))) (sym same) (put_same r.name (write d) ms (left_out r.mark d) (g same) (subst (λ n. NoText (get_member n ms)) same h))
put_textless q r d ms false is g h = ap (option_and_then as_str) (put_other q r.name (write d) ms (left_out r.mark d) (apart q r.name is)) ∙ h

-- the fields of rows, put among members
abbrev Textless : List ℕ → List Row → Docs → Type 0
Textless q rs ds = (ms : Members) → NoText (get_member q ms) → NoText (get_member q (write_rows ds rs ms))

always : {A : Type 0} (P : A → Type 0) (o : Option A) → ((x : A) → P x) → IfSome o P
always P None h = tt
always P (Some x) h = h x

field_textless : (q : List ℕ) (r : Row) (ms : Members) (b : Bool) → bytes_eq q r.name ≡ b → get_member q ms ≡ None → IfSome (fits r.mark r.kind (part r.name (parts ms))) (λ d. q ≡ r.name → Harmless r.mark d)
field_textless q r ms true is e =
    let gone : part r.name (parts ms) ≡ None = part-parts r.name ms ∙ ap (option_map part_of) (subst (λ n. get_member n ms ≡ None) ((bytes_eq-Decides q r.name).0 is) e) in
    subst (λ p. IfSome (fits r.mark r.kind p) (λ d. q ≡ r.name → Harmless r.mark d)) (sym gone) (IfSome_then (fits r.mark r.kind None) (absent_harmless r.mark r.kind) (λ d x same. x))
field_textless q r ms false is e = always (λ d. q ≡ r.name → Harmless r.mark d) (fits r.mark r.kind (part r.name (parts ms))) (λ d same. absurd (apart q r.name is same))

both_textless : (q : List ℕ) (r : Row) (rs : List Row) (o : Option Doc) (p : Option Docs) → IfSome o (λ d. q ≡ r.name → Harmless r.mark d) → IfSome p (Textless q rs) → IfSome (both o p) (Textless q (r ∷ rs))
unfolding write_rows
both_textless q r rs None p g h = tt
both_textless q r rs (Some d) None g h = tt
both_textless q r rs (Some d) (Some ds) g h = λ ms n. h (put_row r d (write d) ms) (put_textless q r d ms (bytes_eq q r.name) refl g n)

rows_textless : (q : List ℕ) (rs : List Row) (ms : Members) → get_member q ms ≡ None → IfSome (read_rows rs (parts ms)) (Textless q rs)
unfolding write_rows
rows_textless q [] ms e = λ base n. n
rows_textless q (r ∷ rs) ms e =
    both_textless q r rs (fits r.mark r.kind (part r.name (parts ms))) (read_rows rs (parts ms)) (field_textless q r ms (bytes_eq q r.name) refl e) (rows_textless q rs ms e)

-- the written document has no text under the name
abbrev pub NoTextAt : List ℕ → Doc → Type 0
NoTextAt q d = NoText (get q (write d))

table_textless : (q : List ℕ) (n : ObjectType) (ms : Members) → get_member q ms ≡ None → IfSome (read_table n ms (parts ms)) (NoTextAt q)
unfolding write
table_textless q n ms e =
    let more = extensions_of (has_extensions n) ms in
    if_map (Textless q (table n)) (NoTextAt q) (λ ds. table_doc n ds more) (λ ds p. p (members_or_none more) (textless q (members_or_none more) (without_any q (has_extensions n) ms (without q ms e))))
    (read_rows (table n) (parts ms)) (rows_textless q (table n) ms e)

-- ---- maps

-- no entry has the name
abbrev Lacks : List ℕ → Entries → Type 0
Lacks q no_entries = Unit {0}
Lacks q (entry k d es) = (q ≡ k → ⊥) × Lacks q es

abbrev PartsLack : List ℕ → Parts → Type 0
PartsLack q [] = Unit {0}
PartsLack q (p ∷ ps) = (q ≡ part_name p → ⊥) × PartsLack q ps

parts_lack : (q : List ℕ) (ms : Members) → Without q ms → PartsLack q (parts ms)
unfolding parts
parts_lack q no_members h = tt
parts_lack q (member k d ms) h = (h.0, parts_lack q ms h.1)

kept_lack : (q : List ℕ) (b : Bool) (p : List ℕ × Part) (ps : Parts) → (q ≡ part_name p → ⊥) → PartsLack q ps → PartsLack q (cond b ps (p ∷ ps))
kept_lack q true p ps n h = h
kept_lack q false p ps n h = (n, h)

entry_parts_lack : (q : List ℕ) (ps : Parts) → PartsLack q ps → PartsLack q (entry_parts ps)
entry_parts_lack q [] h = tt
entry_parts_lack q (p ∷ ps) h = kept_lack q (is_extension (part_name p)) p (entry_parts ps) h.0 (entry_parts_lack q ps h.1)

both_lack : (q k : List ℕ) (o : Option Doc) (p : Option Entries) → (q ≡ k → ⊥) → IfSome p (Lacks q) → IfSome (both_entries k o p) (Lacks q)
both_lack q k None p n h = tt
both_lack q k (Some d) None n h = tt
both_lack q k (Some d) (Some es) n h = (n, h)

entries_lack : (q : List ℕ) (k : Kind) (ps : Parts) → PartsLack q ps → IfSome (read_entries k ps) (Lacks q)
entries_lack q k [] h = tt
entries_lack q k (p ∷ ps) h = both_lack q (part_name p) (part_reads (named_part p) k) (read_entries k ps) h.0 (entries_lack q k ps h.1)

flows_lack : (q : List ℕ) (ps : Parts) → PartsLack q ps → IfSome (read_flows ps) (Lacks q)
flows_lack q [] h = tt
flows_lack q (p ∷ ps) h = both_lack q (part_name p) (read_flow (chosen (part_name p) flow_keys) (part_reads (named_part p))) (read_flows ps) h.0 (flows_lack q ps h.1)

without_entries : (q : List ℕ) (es : Entries) → Lacks q es → Without q (write_entries es)
unfolding write_entries
without_entries q no_entries h = tt
without_entries q (entry k d es) h = (h.0, without_entries q es h.1)

without_written : (q : List ℕ) (es : Entries) (ms : Members) → Lacks q es → Without q ms → Without q (put_written es ms)
unfolding put_written
without_written q no_entries ms g h = h
without_written q (entry k d es) ms g h = without_written q es (put k (write d) ms) g.1 (without_put q k (write d) ms g.0 h)

put_lack : (q k : List ℕ) (d : Doc) (es : Entries) → (q ≡ k → ⊥) → Lacks q es → Lacks q (put_entry k d es)
put_lack q k d no_entries n h = (n, tt)
put_lack q k d (entry l e es) n h =
    by_order (Lacks q) (slice_cmp nat_cmp k l) (entry k d (entry l e es)) (entry l d es) (entry l e (put_entry k d es)) (n, h) h (h.0, put_lack q k d es n h.1)

puts_lack : (q : List ℕ) (es fs : Entries) → Lacks q es → Lacks q fs → Lacks q (put_entries es fs)
puts_lack q no_entries fs g h = h
puts_lack q (entry k d es) fs g h = puts_lack q es (put_entry k d fs) g.1 (put_lack q k d fs g.0 h)

-- ---- choices

schema_textless : (q : List ℕ) (ms : Members) → get_member q ms ≡ None → IfSome (read_schema ms (parts ms)) (NoTextAt q)
unfolding write
schema_textless q ms e =
    let P = NoTextAt q in
    let typed = is_named (codes "type") ms in
    let bare = not (list_any (λ name. is_named name ms) schema_keywords) in
    if_map P P schema_doc (λ x p. p) _
    (if_else P _ _ (table_textless q one_of_schema ms e)
    (if_else P _ _ (table_textless q all_of_schema ms e)
    (if_else P _ _ (table_textless q any_of_schema ms e)
    (if_else P _ _ (table_textless q array_schema ms e)
    (if_else P (only_if typed (read_table object_schema ms (parts ms))) (only_if bare (read_table object_schema ms (parts ms))) (if_only P typed _ (table_textless q object_schema ms e))
    (if_only P bare _ (table_textless q object_schema ms e)))))))

ref_or_textless : (q : List ℕ) (k : Kind) (own : Option Doc) (ms : Members) → get_member q ms ≡ None → IfSome own (NoTextAt q) → IfSome (read_ref_or k own ms (parts ms)) (NoTextAt q)
unfolding write
ref_or_textless q k own ms e o =
    let P = NoTextAt q in
    if_else P _ _ (if_map P P (ref_doc k) (λ x p. p) (read_table reference_object ms (parts ms)) (table_textless q reference_object ms e)) (if_map P P own_doc (λ x p. p) own o)

with_textless : (q name : List ℕ) (e w : Data) → (q ≡ name → ⊥) → NoText (get q w) → NoText (get q (with_member name e w))
with_textless q name e null n h = h
with_textless q name e (boolean b) n h = h
with_textless q name e (number m) n h = h
with_textless q name e (string s) n h = h
with_textless q name e (array ds) n h = h
with_textless q name e (object ms) n h = ap (option_and_then as_str) (get_member-put_other q name e ms n) ∙ h

alternative_textless : (q : List ℕ) (ms : Members) → get_member q ms ≡ None → (k : Kind) → IfSome (read_alternative ms (parts ms) k) (NoTextAt q)
alternative_textless q ms e (named n) = table_textless q n ms e
alternative_textless q ms e k = tt

tagged_textless : (q name : List ℕ) (choices : List (List ℕ × Kind)) (f : Kind → Option Doc) (ms : Members) → (q ≡ name → ⊥) → ((k : Kind) → IfSome (f k) (NoTextAt q)) → IfSome (read_tagged name choices f ms) (NoTextAt q)
unfolding write
tagged_textless q name choices f ms n h =
    let P = NoTextAt q in
    if_then P _ (λ word. if_then P _ (λ k. if_map P P (tagged_doc name word) (λ d p. with_textless q name (string word) (write d) n p) (f k) (h k)) (chosen word choices)) (text_at name ms)

-- the name is none by which a security scheme says what it is
abbrev NoTag : List ℕ → Type 0
NoTag q = (q ≡ codes "type" → ⊥) × (q ≡ codes "in" → ⊥)

api_key_textless : (q : List ℕ) (ms : Members) → NoTag q → get_member q ms ≡ None → IfSome (read_api_key ms (parts ms)) (NoTextAt q)
api_key_textless q ms n e = tagged_textless q (codes "in") api_key_places (read_alternative ms (parts ms)) ms n.1 (alternative_textless q ms e)

scheme_textless : (q : List ℕ) (ms : Members) → NoTag q → get_member q ms ≡ None → (k : Kind) → IfSome (read_scheme ms (parts ms) k) (NoTextAt q)
scheme_textless q ms n e api_key = api_key_textless q ms n e
scheme_textless q ms n e k = alternative_textless q ms e k

object_textless : (q : List ℕ) (ms : Members) → NoTag q → get_member q ms ≡ None → (k : Kind) → IfSome (read_object ms (parts ms) k) (NoTextAt q)
unfolding write
object_textless q ms n e any = ap (option_and_then as_str) e
object_textless q ms n e (map_of k) =
    if_map (Lacks q) (NoTextAt q) map_doc (λ es p. textless q (write_entries es) (without_entries q es p)) (read_entries k (parts ms)) (entries_lack q k (parts ms) (parts_lack q ms (without q ms e)))
object_textless q ms n e (ordered_map_of k) =
    if_map (Lacks q) (NoTextAt q) (λ es. ordered_map_doc (by_name es)) (λ es p. textless q (put_written (by_name es) no_members) (without_written q (by_name es) no_members (puts_lack q es no_entries p tt) tt))
    (read_entries k (parts ms)) (entries_lack q k (parts ms) (parts_lack q ms (without q ms e)))
object_textless q ms n e (entries_of k) =
    let more = members_or_none (extensions_of true ms) in
    if_map (Lacks q) (NoTextAt q) (λ es. entries_doc es (extensions_of true ms))
    (λ es p. textless q (merge_members (write_entries es) more) (without_merged q (write_entries es) more (without_entries q es p) (without_any q true ms (without q ms e))))
    (read_entries k (entry_parts (parts ms))) (entries_lack q k (entry_parts (parts ms)) (entry_parts_lack q (parts ms) (parts_lack q ms (without q ms e))))
object_textless q ms n e (ref_or k) = ref_or_textless q k (read_object ms (parts ms) k) ms e (object_textless q ms n e k)
object_textless q ms n e (named m) = table_textless q m ms e
object_textless q ms n e schema = schema_textless q ms e
object_textless q ms n e array_items = ref_or_textless q schema (read_schema ms (parts ms)) ms e (schema_textless q ms e)
object_textless q ms n e additional_properties = ref_or_textless q schema (read_schema ms (parts ms)) ms e (schema_textless q ms e)
object_textless q ms n e security_scheme = tagged_textless q (codes "type") scheme_types (read_scheme ms (parts ms)) ms n.0 (scheme_textless q ms n e)
object_textless q ms n e api_key = api_key_textless q ms n e
object_textless q ms n e flows =
    if_map (Lacks q) (NoTextAt q) map_doc (λ es p. textless q (write_entries es) (without_entries q es p)) (read_flows (parts ms)) (flows_lack q (parts ms) (parts_lack q ms (without q ms e)))
object_textless q ms n e k = tt

none_there : (o : Option Data) → is_some o ≡ false → o ≡ None
none_there None e = refl
none_there (Some d) e = absurd (true≢false e)

-- an object that names no `$ref` is written so that it is read as no reference
pub unreferred : (ms : Members) → is_named (codes "$ref") ms ≡ false → (k : Kind) → IfSome (read_object ms (parts ms) k) (NoTextAt (codes "$ref"))
unreferred ms e k = object_textless (codes "$ref") ms (apart (codes "$ref") (codes "type") refl, apart (codes "$ref") (codes "in") refl) (none_there (get_member (codes "$ref") ms) e) k
