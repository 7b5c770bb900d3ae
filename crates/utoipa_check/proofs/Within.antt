-- A document that was read is written with no place besides those of its tree, but for the null of a description.
use Rattle.std.proofs.Common.{◌≡◌, ◌⊎◌, ◌&&◌, inl, inr, ℕ, ℤ, pos, negsuc, List, [], ◌∷◌, Bool, true, false, not, cond, nat_cmp, nat_lt, ◌^◌, codes, Option, Some, None, IfSome, option_map, option_and_then, is_some, refl, sym, ap, subst, true≢false, Ordering, Less, Equal, Greater}
use Rattle.std.proofs.lemmas.Map.Lookups.{exact_bytes}
use Rattle.std.proofs.lemmas.Option.{IfSome_then}
use Rattle.std.proofs.lemmas.Slice.Eq.{bytes_eq-Decides}
use Rattle.std.specs.Cmp.Lexicographic.{slice_cmp}
use Rattle.std.specs.List.{list_any}
use Rattle.std.specs.Ordering.{match_ordering}
use Rattle.std.specs.Str.{bytes_eq}
use Rattle.serde_json.specs.Data.{Num, Data, null, boolean, number, string, array, object, Items, no_items, item, Members, no_members, member, put}
use Rattle.serde_json.specs.Find.{as_integer, as_str, as_u64, get_member}
use Rattle.utoipa_base.specs.Kinds.{ObjectType, open_api_object, info_object, contact_object, license_object, server_object, server_variable_object, components_object, path_item_object, operation_object, external_docs_object, parameter_object, request_body_object, media_type_object, encoding_object, response_object, example_object, link_object, header_object, tag_object, reference_object, discriminator_object, xml_object, one_of_schema, all_of_schema, any_of_schema, array_schema, object_schema, api_key_scheme, http_scheme, open_id_connect_scheme, mutual_tls_scheme, oauth2_scheme, implicit_flow, password_flow, client_credentials_flow, authorization_code_flow, device_authorization_flow, scopes_object, type_word, known_format, Kind, text, flag, whole, numeral, any, word_of, version, list_of, map_of, ordered_map_of, entries_of, ref_or, named, schema, schema_type, schema_format, array_items, additional_properties, security_scheme, api_key, flows, Mark, required, optional, or_null, defaulted, Row}
use Rattle.utoipa_base.specs.Words.{is_word}
use Rattle.utoipa_base.specs.Version.{read_version}
use Rattle.utoipa_base.specs.Choices.{chosen, scheme_types, api_key_places, flow_keys, schema_keywords}
use Rattle.utoipa_base.specs.Docs.{Doc, int_doc, uint_doc, whole_doc, word_doc, types_doc, none_doc, some_doc, ref_doc, own_doc, schema_doc, tagged_doc, flow_doc, list_doc, map_doc, ordered_map_doc, entries_doc, table_doc, Docs, Entries, no_entries, entry}
use Rattle.utoipa_base.specs.ByName.{put_entry, put_entries, by_name}
use Rattle.utoipa_base.specs.Tables.{table, has_extensions}
use Rattle.utoipa_base.specs.Extensions.{is_extension, extension_members, extensions_of, some_if_any, members_or_none}
use Rattle.utoipa_base.specs.Reading.{both, both_entries, or_else, only_if, Part, Parts, part, part_of, entry_parts, is_null, empty_doc, fits, read_rows, read_table, read_items, read_entries, is_named, read_schema, read_ref_or, text_at, read_alternative, read_tagged, read_api_key, read_scheme, first_that_fits, read_flow, read_flows, read_null, read_boolean, numeral_doc, read_number, read_word, read_format, read_string, read_array, read_object, reader, item_readers, parts, read}
use Rattle.utoipa_base.specs.Writing.{write, write_items, write_entries, put_written, write_rows, left_out, is_empty, put_row, put_unless, merge_member, merge_members, with_member}
use Rattle.utoipa_base.proofs.BoolFacts.{and_first, and_second}
use Rattle.utoipa_base.proofs.ByRows.{part-parts}
use Rattle.utoipa_base.proofs.Results.{if_is, if_map, if_made, if_then, if_else, if_only, by_order}
use Rattle.utoipa_base.proofs.TableNames.{has_empty}
use Rattle.utoipa_check.specs.IsDropped.{IsMember}
use Rattle.utoipa_check.specs.Places.{members_at}
use Rattle.utoipa_check.specs.Within.{IsWithin, ItemsWithin, MembersWithin, IsPlaced}
use Rattle.utoipa_check.proofs.Sound.{got_member}

-- ---- members within others

mutual
  itself : (t : Data) → IsWithin t t
  itself null = tt
  itself (boolean b) = tt
  itself (number n) = tt
  itself (string s) = tt
  itself (array ds) = (ds, refl, items_itself ds)
  itself (object ms) = (ms, refl, members_itself ms ms (λ k x h. h))

  items_itself : (ds : Items) → ItemsWithin ds ds
  items_itself no_items = tt
  items_itself (item d ds) = (itself d, items_itself ds)

  members_itself : (ms all : Members) → ((k : List ℕ) (x : Data) → IsMember k x ms → IsMember k x all) → MembersWithin ms all
  members_itself no_members all f = tt
  members_itself (member k d ms) all f = (inl (d, f k d (inl (refl, refl)), itself d), members_itself ms all (λ l x h. f l x (inr h)))

kept_in : (b : Bool) (k : List ℕ) (d : Data) (es ms : Members) (l : List ℕ) (x : Data) → (IsMember l x es → IsMember l x ms) → IsMember l x (cond b (member k d es) es) → IsMember l x (member k d ms)
kept_in true k d es ms l x f (inl e) = inl e
kept_in true k d es ms l x f (inr h) = inr (f h)
kept_in false k d es ms l x f h = inr (f h)

extension_in : (ms : Members) (l : List ℕ) (x : Data) → IsMember l x (extension_members ms) → IsMember l x ms
extension_in no_members l x h = h
extension_in (member k d ms) l x h = kept_in (is_extension k) k d (extension_members ms) ms l x (extension_in ms l x) h

some_within : (ms all : Members) → MembersWithin ms all → MembersWithin (members_or_none (some_if_any ms)) all
some_within no_members all h = tt
some_within (member k d ms) all h = h

extensions_within : (kept : Bool) (ms : Members) → MembersWithin (members_or_none (extensions_of kept ms)) ms
extensions_within true ms = some_within (extension_members ms) ms (members_itself (extension_members ms) ms (extension_in ms))
extensions_within false ms = tt

put_by : (o : Ordering) (k : List ℕ) (d : Data) (l : List ℕ) (e : Data) (ms more all : Members) → slice_cmp nat_cmp k l ≡ o → IsPlaced k d all → MembersWithin (member l e ms) all → MembersWithin more all
    → MembersWithin (match_ordering o (member k d (member l e ms)) (member l d ms) (member l e more)) all
put_by Less k d l e ms more all is g h later = (g, h)
put_by Equal k d l e ms more all is g h later = (subst (λ n. IsPlaced n d all) (exact_bytes k l is) g, h.1)
put_by Greater k d l e ms more all is g h later = (h.0, later)

put_within : (k : List ℕ) (d : Data) (ms all : Members) → IsPlaced k d all → MembersWithin ms all → MembersWithin (put k d ms) all
put_within k d no_members all g h = (g, tt)
put_within k d (member l e ms) all g h = put_by (slice_cmp nat_cmp k l) k d l e ms (put k d ms) all refl g h (put_within k d ms all g h.1)

member_within : (k : List ℕ) (d : Data) (rest : Members → Members) (all : Members) → IsPlaced k d all → ((ms : Members) → MembersWithin ms all → MembersWithin (rest ms) all) → (ms : Members) → MembersWithin ms all → MembersWithin (merge_member k d rest ms) all
member_within k d rest all g f no_members h = (g, f no_members tt)
member_within k d rest all g f (member l e ms) h =
    by_order (λ xs. MembersWithin xs all) (slice_cmp nat_cmp k l) (member k d (rest (member l e ms))) (member k d (rest ms)) (member l e (merge_member k d rest ms))
    (g, f (member l e ms) h) (g, f ms h.1) (h.0, member_within k d rest all g f ms h.1)

merged_within : (es ms all : Members) → MembersWithin es all → MembersWithin ms all → MembersWithin (merge_members es ms) all
merged_within no_members ms all g h = h
merged_within (member k d es) ms all g h = member_within k d (merge_members es) all g.0 (λ ns x. merged_within es ns all g.1 x) ms h

-- ---- what is read

-- what a tree reads as is written within it
abbrev Fits : Data → Type 0
Fits t = (k : Kind) → IfSome (reader t k) (λ d. IsWithin (write d) t)

-- the same of each member
abbrev AllFit : Members → Type 0
AllFit ms = (k : List ℕ) (x : Data) → IsMember k x ms → Fits x

-- ---- rows

-- a row is left out where its member is absent, or is written as null under `description`
abbrev is_fine : Mark → List ℕ → Kind → Bool
is_fine required name k = true
is_fine optional name k = true
is_fine or_null name k = bytes_eq name (codes "description")
is_fine defaulted name k = has_empty k

abbrev are_fine : List Row → Bool
are_fine [] = true
are_fine (r ∷ rs) = is_fine r.mark r.name r.kind && are_fine rs

table_fine : (n : ObjectType) → are_fine (table n) ≡ true
table_fine open_api_object = refl
table_fine info_object = refl
table_fine contact_object = refl
table_fine license_object = refl
table_fine server_object = refl
table_fine server_variable_object = refl
table_fine components_object = refl
table_fine path_item_object = refl
table_fine operation_object = refl
table_fine external_docs_object = refl
table_fine parameter_object = refl
table_fine request_body_object = refl
table_fine media_type_object = refl
table_fine encoding_object = refl
table_fine response_object = refl
table_fine example_object = refl
table_fine link_object = refl
table_fine header_object = refl
table_fine tag_object = refl
table_fine reference_object = refl
table_fine discriminator_object = refl
table_fine xml_object = refl
table_fine one_of_schema = refl
table_fine all_of_schema = refl
table_fine any_of_schema = refl
table_fine array_schema = refl
table_fine object_schema = refl
table_fine api_key_scheme = refl
table_fine http_scheme = refl
table_fine open_id_connect_scheme = refl
table_fine mutual_tls_scheme = refl
table_fine oauth2_scheme = refl
table_fine implicit_flow = refl
table_fine password_flow = refl
table_fine client_credentials_flow = refl
table_fine authorization_code_flow = refl
table_fine device_authorization_flow = refl
table_fine scopes_object = refl

-- a field is left out, or has its place
abbrev FieldWithin : Mark → List ℕ → Members → Doc → Type 0
FieldWithin m name all d = (left_out m d ≡ true) ⊎ IsPlaced name (write d) all

empty_left : (k : Kind) → has_empty k ≡ true → is_empty (empty_doc k) ≡ true
empty_left text e = refl
empty_left flag e = refl
empty_left (list_of k) e = refl
empty_left (map_of k) e = refl
empty_left (ordered_map_of k) e = refl
empty_left schema_type e = refl
empty_left k e = absurd (true≢false (sym e))

absent_within : (m : Mark) (name : List ℕ) (k : Kind) (all : Members) → is_fine m name k ≡ true → get_member name all ≡ None → IfSome (fits m k None) (FieldWithin m name all)
unfolding write
absent_within required name k all fine gone = tt
absent_within optional name k all fine gone = inl refl
absent_within or_null name k all fine gone = inr (inr ((bytes_eq-Decides name (codes "description")).0 fine, refl, gone))
absent_within defaulted name k all fine gone = inl (empty_left k fine)

null_or_within : (m : Mark) (name : List ℕ) (all : Members) (x : Data) → IsMember name x all → (b : Bool) (o : Option Doc) → IfSome o (λ d. IsWithin (write d) x) → IfSome (cond b (Some none_doc) (option_map some_doc o)) (FieldWithin m name all)
unfolding write
null_or_within m name all x is true o h = inr (inl (x, is, tt))
null_or_within m name all x is false o h = if_map (λ d. IsWithin (write d) x) (FieldWithin m name all) some_doc (λ d w. inr (inl (x, is, w))) o h

there_within : (m : Mark) (name : List ℕ) (k : Kind) (all : Members) (x : Data) → IsMember name x all → Fits x → IfSome (fits m k (Some (part_of x))) (FieldWithin m name all)
there_within required name k all x is h = IfSome_then (reader x k) (h k) (λ d w. inr (inl (x, is, w)))
there_within optional name k all x is h = null_or_within optional name all x is (is_null x) (reader x k) (h k)
there_within or_null name k all x is h = null_or_within or_null name all x is (is_null x) (reader x k) (h k)
there_within defaulted name k all x is h = IfSome_then (reader x k) (h k) (λ d w. inr (inl (x, is, w)))

by_member : (m : Mark) (name : List ℕ) (k : Kind) (ms : Members) → is_fine m name k ≡ true → AllFit ms → (o : Option Data) → get_member name ms ≡ o → IfSome (fits m k (option_map part_of o)) (FieldWithin m name ms)
by_member m name k ms fine h None is = absent_within m name k ms fine is
by_member m name k ms fine h (Some x) is = let there = got_member name ms x is in there_within m name k ms x there (h name x there)

field_within : (m : Mark) (name : List ℕ) (k : Kind) (ms : Members) → is_fine m name k ≡ true → AllFit ms → IfSome (fits m k (part name (parts ms))) (FieldWithin m name ms)
field_within m name k ms fine h = subst (λ p. IfSome (fits m k p) (FieldWithin m name ms)) (sym (part-parts name ms)) (by_member m name k ms fine h (get_member name ms) refl)

put_unless_within : (b : Bool) (k : List ℕ) (d : Data) (ms all : Members) → (b ≡ true) ⊎ IsPlaced k d all → MembersWithin ms all → MembersWithin (put_unless b k d ms) all
put_unless_within true k d ms all w h = h
put_unless_within false k d ms all (inl e) h = absurd (true≢false (sym e))
put_unless_within false k d ms all (inr g) h = put_within k d ms all g h

-- the fields of rows, put among members
abbrev RowsWithin : Members → List Row → Docs → Type 0
RowsWithin all rs ds = (ms : Members) → MembersWithin ms all → MembersWithin (write_rows ds rs ms) all

both_within : (all : Members) (r : Row) (rs : List Row) (o : Option Doc) (p : Option Docs) → IfSome o (FieldWithin r.mark r.name all) → IfSome p (RowsWithin all rs) → IfSome (both o p) (RowsWithin all (r ∷ rs))
unfolding write_rows
both_within all r rs None p g h = tt
both_within all r rs (Some d) None g h = tt
both_within all r rs (Some d) (Some ds) g h = λ ms w. h (put_row r d (write d) ms) (put_unless_within (left_out r.mark d) r.name (write d) ms all g w)

rows_within : (rs : List Row) (ms : Members) → are_fine rs ≡ true → AllFit ms → IfSome (read_rows rs (parts ms)) (RowsWithin ms rs)
unfolding write_rows
rows_within [] ms fine h = λ base w. w
rows_within (r ∷ rs) ms fine h =
    both_within ms r rs (fits r.mark r.kind (part r.name (parts ms))) (read_rows rs (parts ms)) (field_within r.mark r.name r.kind ms (and_first _ _ fine) h) (rows_within rs ms (and_second _ _ fine) h)

-- what is read of an object is written within it
abbrev InObject : Members → Doc → Type 0
InObject ms d = IsWithin (write d) (object ms)

table_within : (n : ObjectType) (ms : Members) → AllFit ms → IfSome (read_table n ms (parts ms)) (InObject ms)
unfolding write
table_within n ms h =
    let more = extensions_of (has_extensions n) ms in
    if_map (RowsWithin ms (table n)) (InObject ms) (λ ds. table_doc n ds more) (λ ds p. (ms, refl, p (members_or_none more) (extensions_within (has_extensions n) ms)))
    (read_rows (table n) (parts ms)) (rows_within (table n) ms (table_fine n) h)

-- ---- maps

abbrev EntriesWithin : Members → Entries → Type 0
EntriesWithin all no_entries = Unit {0}
EntriesWithin all (entry k d es) = IsPlaced k (write d) all × EntriesWithin all es

abbrev PartsWithin : Members → Parts → Type 0
PartsWithin all [] = Unit {0}
PartsWithin all (p ∷ ps) = ((k : Kind) → IfSome (p.1.1 k) (λ d. IsPlaced p.0 (write d) all)) × PartsWithin all ps

parts_within : (all ms : Members) → ((k : List ℕ) (x : Data) → IsMember k x ms → IsMember k x all) → AllFit ms → PartsWithin all (parts ms)
unfolding parts
parts_within all no_members f h = tt
parts_within all (member k d ms) f h =
    (λ j. IfSome_then (reader d j) (h k d (inl (refl, refl)) j) (λ x w. inl (d, f k d (inl (refl, refl)), w)), parts_within all ms (λ l x there. f l x (inr there)) (λ l x there. h l x (inr there)))

kept_within : (all : Members) (b : Bool) (p : List ℕ × Part) (ps : Parts) → ((k : Kind) → IfSome (p.1.1 k) (λ d. IsPlaced p.0 (write d) all)) → PartsWithin all ps → PartsWithin all (cond b ps (p ∷ ps))
kept_within all true p ps g h = h
kept_within all false p ps g h = (g, h)

entry_parts_within : (all : Members) (ps : Parts) → PartsWithin all ps → PartsWithin all (entry_parts ps)
entry_parts_within all [] h = tt
entry_parts_within all (p ∷ ps) h = kept_within all (is_extension p.0) p (entry_parts ps) h.0 (entry_parts_within all ps h.1)

both_entries_within : (all : Members) (k : List ℕ) (o : Option Doc) (p : Option Entries) → IfSome o (λ d. IsPlaced k (write d) all) → IfSome p (EntriesWithin all) → IfSome (both_entries k o p) (EntriesWithin all)
both_entries_within all k None p g h = tt
both_entries_within all k (Some d) None g h = tt
both_entries_within all k (Some d) (Some es) g h = (g, h)

entries_within : (all : Members) (k : Kind) (ps : Parts) → PartsWithin all ps → IfSome (read_entries k ps) (EntriesWithin all)
entries_within all k [] h = tt
entries_within all k (p ∷ ps) h = both_entries_within all p.0 (p.1.1 k) (read_entries k ps) (h.0 k) (entries_within all k ps h.1)

first_within : (P : Doc → Type 0) (cs : List (List ℕ × ObjectType)) (f : Kind → Option Doc) → ((k : Kind) → IfSome (f k) P) → IfSome (first_that_fits cs f) P
first_within P [] f h = tt
first_within P (c ∷ cs) f h = if_else P (f (named c.1)) (first_that_fits cs f) (h (named c.1)) (first_within P cs f h)

flow_within : (all : Members) (name : List ℕ) (o : Option ObjectType) (f : Kind → Option Doc) → ((k : Kind) → IfSome (f k) (λ d. IsPlaced name (write d) all)) → IfSome (read_flow o f) (λ d. IsPlaced name (write d) all)
unfolding write
flow_within all name (Some n) f h = if_map (λ d. IsPlaced name (write d) all) (λ d. IsPlaced name (write d) all) flow_doc (λ d p. p) (f (named n)) (h (named n))
flow_within all name None f h =
    if_map (λ d. IsPlaced name (write d) all) (λ d. IsPlaced name (write d) all) flow_doc (λ d p. p) (first_that_fits flow_keys f) (first_within (λ d. IsPlaced name (write d) all) flow_keys f h)

flows_within : (all : Members) (ps : Parts) → PartsWithin all ps → IfSome (read_flows ps) (EntriesWithin all)
flows_within all [] h = tt
flows_within all (p ∷ ps) h =
    both_entries_within all p.0 (read_flow (chosen p.0 flow_keys) p.1.1) (read_flows ps) (flow_within all p.0 (chosen p.0 flow_keys) p.1.1 h.0) (flows_within all ps h.1)

written_entries : (all : Members) (es : Entries) → EntriesWithin all es → MembersWithin (write_entries es) all
unfolding write_entries
written_entries all no_entries h = tt
written_entries all (entry k d es) h = (h.0, written_entries all es h.1)

put_entries_written : (all : Members) (es : Entries) (ms : Members) → EntriesWithin all es → MembersWithin ms all → MembersWithin (put_written es ms) all
unfolding put_written
put_entries_written all no_entries ms g h = h
put_entries_written all (entry k d es) ms g h = put_entries_written all es (put k (write d) ms) g.1 (put_within k (write d) ms all g.0 h)

entry_by : (all : Members) (o : Ordering) (k : List ℕ) (d : Doc) (l : List ℕ) (e : Doc) (es more : Entries) → slice_cmp nat_cmp k l ≡ o → IsPlaced k (write d) all → EntriesWithin all (entry l e es) → EntriesWithin all more
    → EntriesWithin all (match_ordering o (entry k d (entry l e es)) (entry l d es) (entry l e more))
entry_by all Less k d l e es more is g h later = (g, h)
entry_by all Equal k d l e es more is g h later = (subst (λ n. IsPlaced n (write d) all) (exact_bytes k l is) g, h.1)
entry_by all Greater k d l e es more is g h later = (h.0, later)

put_entry_within : (all : Members) (k : List ℕ) (d : Doc) (es : Entries) → IsPlaced k (write d) all → EntriesWithin all es → EntriesWithin all (put_entry k d es)
put_entry_within all k d no_entries g h = (g, tt)
put_entry_within all k d (entry l e es) g h = entry_by all (slice_cmp nat_cmp k l) k d l e es (put_entry k d es) refl g h (put_entry_within all k d es g h.1)

put_entries_within : (all : Members) (es fs : Entries) → EntriesWithin all es → EntriesWithin all fs → EntriesWithin all (put_entries es fs)
put_entries_within all no_entries fs g h = h
put_entries_within all (entry k d es) fs g h = put_entries_within all es (put_entry k d fs) g.1 (put_entry_within all k d fs g.0 h)

-- ---- choices

schema_within : (ms : Members) → AllFit ms → IfSome (read_schema ms (parts ms)) (InObject ms)
unfolding write
schema_within ms h =
    let P = InObject ms in
    let ps = parts ms in
    let typed = is_named (codes "type") ms in
    let bare = not (list_any (λ name. is_named name ms) schema_keywords) in
    let one = read_table one_of_schema ms ps in
    let all = read_table all_of_schema ms ps in
    let some = read_table any_of_schema ms ps in
    let list = read_table array_schema ms ps in
    let own = read_table object_schema ms ps in
    let either_own = or_else (only_if typed own) (only_if bare own) in
    if_map P P schema_doc (λ x p. p) (or_else one (or_else all (or_else some (or_else list either_own))))
    (if_else P one (or_else all (or_else some (or_else list either_own))) (table_within one_of_schema ms h)
    (if_else P all (or_else some (or_else list either_own)) (table_within all_of_schema ms h)
    (if_else P some (or_else list either_own) (table_within any_of_schema ms h)
    (if_else P list either_own (table_within array_schema ms h)
    (if_else P (only_if typed own) (only_if bare own) (if_only P typed own (table_within object_schema ms h)) (if_only P bare own (table_within object_schema ms h)))))))

ref_or_within : (k : Kind) (own : Option Doc) (ms : Members) → AllFit ms → IfSome own (InObject ms) → IfSome (read_ref_or k own ms (parts ms)) (InObject ms)
unfolding write
ref_or_within k own ms h o =
    let P = InObject ms in
    let reference = read_table reference_object ms (parts ms) in
    if_else P (option_map (ref_doc k) reference) (option_map own_doc own) (if_map P P (ref_doc k) (λ x p. p) reference (table_within reference_object ms h)) (if_map P P own_doc (λ x p. p) own o)

alternative_within : (ms : Members) → AllFit ms → (k : Kind) → IfSome (read_alternative ms (parts ms) k) (InObject ms)
alternative_within ms h (named n) = table_within n ms h
alternative_within ms h k = tt

text_is : (o : Option Data) (word : List ℕ) → option_and_then as_str o ≡ Some word → o ≡ Some (string word)
text_is None word e = absurd (true≢false (sym (ap is_some e)))
text_is (Some null) word e = absurd (true≢false (sym (ap is_some e)))
text_is (Some (boolean b)) word e = absurd (true≢false (sym (ap is_some e)))
text_is (Some (number n)) word e = absurd (true≢false (sym (ap is_some e)))
text_is (Some (string s)) word e = ap (option_map string) e
text_is (Some (array ds)) word e = absurd (true≢false (sym (ap is_some e)))
text_is (Some (object ms)) word e = absurd (true≢false (sym (ap is_some e)))

with_within : (name : List ℕ) (e w : Data) (ms : Members) → IsPlaced name e ms → IsWithin w (object ms) → IsWithin (with_member name e w) (object ms)
with_within name e null ms g h = tt
with_within name e (boolean b) ms g h = tt
with_within name e (number n) ms g h = tt
with_within name e (string s) ms g h = tt
with_within name e (array ds) ms g h = h
with_within name e (object ns) ms g h = (h.0, h.1, put_within name e ns h.0 (subst (IsPlaced name e) (ap members_at h.1) g) h.2)

tagged_by : (name : List ℕ) (choices : List (List ℕ × Kind)) (f : Kind → Option Doc) (ms : Members) → ((k : Kind) → IfSome (f k) (InObject ms)) → (o : Option (List ℕ)) → text_at name ms ≡ o
    → IfSome (option_and_then (λ word. option_and_then (λ k. option_map (tagged_doc name word) (f k)) (chosen word choices)) o) (InObject ms)
unfolding write
tagged_by name choices f ms h None is = tt
tagged_by name choices f ms h (Some word) is =
    let P = InObject ms in
    let there = got_member name ms (string word) (text_is (get_member name ms) word is) in
    if_then P _ (λ k. if_map P P (tagged_doc name word) (λ d p. with_within name (string word) (write d) ms (inl (string word, there, tt)) p) (f k) (h k)) (chosen word choices)

tagged_within : (name : List ℕ) (choices : List (List ℕ × Kind)) (f : Kind → Option Doc) (ms : Members) → ((k : Kind) → IfSome (f k) (InObject ms)) → IfSome (read_tagged name choices f ms) (InObject ms)
tagged_within name choices f ms h = tagged_by name choices f ms h (text_at name ms) refl

api_key_within : (ms : Members) → AllFit ms → IfSome (read_api_key ms (parts ms)) (InObject ms)
api_key_within ms h = tagged_within (codes "in") api_key_places (read_alternative ms (parts ms)) ms (alternative_within ms h)

scheme_within : (ms : Members) → AllFit ms → (k : Kind) → IfSome (read_scheme ms (parts ms) k) (InObject ms)
scheme_within ms h api_key = api_key_within ms h
scheme_within ms h k = alternative_within ms h k

-- ---- trees of each sort

object_within : (ms : Members) → AllFit ms → (k : Kind) → IfSome (read_object ms (parts ms) k) (InObject ms)
unfolding write
object_within ms h any = itself (object ms)
object_within ms h (map_of k) = if_map (EntriesWithin ms) (InObject ms) map_doc (λ es p. (ms, refl, written_entries ms es p)) (read_entries k (parts ms)) (entries_within ms k (parts ms) (parts_within ms ms (λ l x there. there) h))
object_within ms h (ordered_map_of k) =
    if_map (EntriesWithin ms) (InObject ms) (λ es. ordered_map_doc (by_name es)) (λ es p. (ms, refl, put_entries_written ms (by_name es) no_members (put_entries_within ms es no_entries p tt) tt)) (read_entries k (parts ms))
    (entries_within ms k (parts ms) (parts_within ms ms (λ l x there. there) h))
object_within ms h (entries_of k) =
    let ps = entry_parts (parts ms) in
    let more = members_or_none (extensions_of true ms) in
    if_map (EntriesWithin ms) (InObject ms) (λ es. entries_doc es (extensions_of true ms)) (λ es p. (ms, refl, merged_within (write_entries es) more ms (written_entries ms es p) (extensions_within true ms))) (read_entries k ps)
    (entries_within ms k ps (entry_parts_within ms (parts ms) (parts_within ms ms (λ l x there. there) h)))
object_within ms h (ref_or k) = ref_or_within k (read_object ms (parts ms) k) ms h (object_within ms h k)
object_within ms h (named n) = table_within n ms h
object_within ms h schema = schema_within ms h
object_within ms h array_items = ref_or_within schema (read_schema ms (parts ms)) ms h (schema_within ms h)
object_within ms h additional_properties = ref_or_within schema (read_schema ms (parts ms)) ms h (schema_within ms h)
object_within ms h security_scheme = tagged_within (codes "type") scheme_types (read_scheme ms (parts ms)) ms (scheme_within ms h)
object_within ms h api_key = api_key_within ms h
object_within ms h flows = if_map (EntriesWithin ms) (InObject ms) map_doc (λ es p. (ms, refl, written_entries ms es p)) (read_flows (parts ms)) (flows_within ms (parts ms) (parts_within ms ms (λ l x there. there) h))
object_within ms h k = tt

own_within : (t : Data) (o : Option Doc) → IfSome o (λ d. IsWithin (write d) t) → IfSome (option_map own_doc o) (λ d. IsWithin (write d) t)
unfolding write
own_within t o h = if_map (λ d. IsWithin (write d) t) (λ d. IsWithin (write d) t) own_doc (λ d p. p) o h

null_within : (k : Kind) → IfSome (read_null k) (λ d. IsWithin (write d) null)
unfolding write
null_within any = tt
null_within schema_type = tt
null_within (ref_or k) = own_within null (read_null k) (null_within k)
null_within k = tt

boolean_within : (b : Bool) (k : Kind) → IfSome (read_boolean b k) (λ d. IsWithin (write d) (boolean b))
unfolding write
boolean_within b flag = tt
boolean_within b any = tt
boolean_within b additional_properties = tt
boolean_within true array_items = tt
boolean_within false array_items = tt
boolean_within b (ref_or k) = own_within (boolean b) (read_boolean b k) (boolean_within b k)
boolean_within b k = tt

numeral_by : (b : Bool) (z : ℤ) (n : ℕ) (t : Data) → IsWithin (write (cond b (int_doc z) (uint_doc n))) t
unfolding write
numeral_by true z n t = tt
numeral_by false z n t = tt

numeral_within : (z : ℤ) (t : Data) → IsWithin (write (numeral_doc z)) t
unfolding write
numeral_within (pos n) t = numeral_by (nat_lt n (2 ^ 63)) (pos n) n t
numeral_within (negsuc n) t = tt

number_within : (n : Num) (k : Kind) → IfSome (read_number n k) (λ d. IsWithin (write d) (number n))
unfolding write
number_within n whole = if_made (λ d. IsWithin (write d) (number n)) whole_doc (λ m. tt) (as_u64 n)
number_within n numeral = if_made (λ d. IsWithin (write d) (number n)) numeral_doc (λ z. numeral_within z (number n)) (as_integer n)
number_within n any = tt
number_within n (ref_or k) = own_within (number n) (read_number n k) (number_within n k)
number_within n k = tt

word_within : (b : Bool) (s : List ℕ) (t : Data) → IfSome (read_word b s) (λ d. IsWithin (write d) t)
unfolding write
word_within true s t = tt
word_within false s t = tt

format_within : (b : Bool) (s : List ℕ) (t : Data) → IsWithin (write (read_format b s)) t
unfolding write
format_within true s t = tt
format_within false s t = tt

string_within : (s : List ℕ) (k : Kind) → IfSome (read_string s k) (λ d. IsWithin (write d) (string s))
unfolding write
string_within s text = tt
string_within s any = tt
string_within s (word_of v) = word_within (is_word v s) s (string s)
string_within s version = if_made (λ d. IsWithin (write d) (string s)) word_doc (λ x. tt) (read_version s)
string_within s schema_type = word_within (is_word type_word s) s (string s)
string_within s schema_format = format_within (is_word known_format s) s (string s)
string_within s (ref_or k) = own_within (string s) (read_string s k) (string_within s k)
string_within s k = tt

-- what the items read as is written within them
abbrev ItemsFit : Items → Type 0
ItemsFit ts = (k : Kind) → IfSome (read_items k (item_readers ts)) (λ ds. ItemsWithin (write_items ds) ts)

both_items : (o : Option Doc) (p : Option Docs) (t : Data) (ts : Items) → IfSome o (λ d. IsWithin (write d) t) → IfSome p (λ ds. ItemsWithin (write_items ds) ts) → IfSome (both o p) (λ ds. ItemsWithin (write_items ds) (item t ts))
unfolding write_items
both_items None p t ts g h = tt
both_items (Some d) None t ts g h = tt
both_items (Some d) (Some ds) t ts g h = (g, h)

array_within : (ts : Items) → ItemsFit ts → (k : Kind) → IfSome (read_array ts (item_readers ts) k) (λ d. IsWithin (write d) (array ts))
unfolding write
array_within ts h any = itself (array ts)
array_within ts h (list_of k) = if_map (λ ds. ItemsWithin (write_items ds) ts) (λ d. IsWithin (write d) (array ts)) list_doc (λ ds p. (ts, refl, p)) (read_items k (item_readers ts)) (h k)
array_within ts h schema_type =
    if_map (λ ds. ItemsWithin (write_items ds) ts) (λ d. IsWithin (write d) (array ts)) (λ ws. types_doc (list_doc ws)) (λ ds p. (ts, refl, p)) (read_items (word_of type_word) (item_readers ts)) (h (word_of type_word))
array_within ts h (ref_or k) = own_within (array ts) (read_array ts (item_readers ts) k) (array_within ts h k)
array_within ts h k = tt

mutual
  unfolding reader item_readers write_items

  tree_within : (t : Data) → Fits t
  tree_within null = null_within
  tree_within (boolean b) = boolean_within b
  tree_within (number n) = number_within n
  tree_within (string s) = string_within s
  tree_within (array ts) = array_within ts (items_within ts)
  tree_within (object ms) = object_within ms (members_within ms)

  items_within : (ts : Items) → ItemsFit ts
  items_within no_items k = tt
  items_within (item t ts) k = both_items (reader t k) (read_items k (item_readers ts)) t ts (tree_within t k) (items_within ts k)

  members_within : (ms : Members) → AllFit ms
  members_within no_members k x h = absurd h
  members_within (member l d ms) k x (inl e) = subst Fits (sym e.1) (tree_within d)
  members_within (member l d ms) k x (inr h) = members_within ms k x h

-- what is read of a tree is written within it
pub written_within : (k : Kind) (t : Data) (d : Doc) → read k t ≡ Some d → IsWithin (write d) t
written_within k t d is = if_is (λ x. IsWithin (write x) t) (reader t k) d (tree_within t k) is
