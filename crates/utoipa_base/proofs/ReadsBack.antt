-- A well-formed document reads back from its own tree as its normal form.
use Rattle.std.proofs.Common.{◌≡◌, ℕ, ℤ, pos, negsuc, List, [], ◌∷◌, Bool, true, false, ◌||◌, Option, Some, None, option_map, refl, sym, ap, ◌∙◌, subst, true≢false, cond}
use Rattle.std.proofs.lemmas.Slice.Eq.{bytes_eq-Decides}
use Rattle.std.specs.Prelude.{codes}
use Rattle.std.specs.Str.{bytes_eq}
use Rattle.serde_json.specs.Data.{Data, null, boolean, number, string, array, object, Members, no_members, put}
use Rattle.serde_json.specs.Find.{get_member}
use Rattle.utoipa_base.specs.Kinds.{ObjectType, reference_object, type_word, Kind, text, flag, whole, numeral, any, word_of, version, list_of, map_of, ordered_map_of, entries_of, named, schema, schema_type, schema_format, array_items, additional_properties, flows, Mark, required, optional, or_null, defaulted, Row}
use Rattle.utoipa_base.specs.Version.{read_version, is_version}
use Rattle.utoipa_base.specs.Choices.{chosen, flow_keys, is_schema_type}
use Rattle.utoipa_base.specs.Docs.{Doc, text_doc, flag_doc, whole_doc, int_doc, uint_doc, tree_doc, word_doc, custom_doc, types_doc, any_value_doc, none_doc, some_doc, ref_doc, own_doc, schema_doc, tagged_doc, flow_doc, list_doc, map_doc, ordered_map_doc, entries_doc, table_doc, Docs, no_docs, doc, Entries, no_entries, entry}
use Rattle.utoipa_base.specs.Tables.{table, has_extensions}
use Rattle.utoipa_base.specs.Extensions.{extensions_of, some_if_any, members_or_none}
use Rattle.utoipa_base.specs.Reading.{reader, item_readers, parts, read, read_items, read_entries, read_flows, read_flow, read_rows, read_word, both_entries, is_null, empty_doc}
use Rattle.utoipa_base.specs.Writing.{write, write_items, write_entries, put_written, write_rows, left_out, is_none, is_empty, put_row, merge_members}
use Rattle.utoipa_base.specs.Fields.{field_of}
use Rattle.utoipa_base.specs.ByName.{put_entry, put_entries, by_name}
use Rattle.utoipa_base.specs.NormalForm.{normal_form, normal_docs, normal_entries, normal_some}
use Rattle.utoipa_base.specs.Shape.{Extends, Place, value_of, option_of, flow_place, field_place, flag_fits, word_fits, own_kind, choices_of, entry_place, IsOf, ItemsOf, EntriesOf, RowsOf}
use Rattle.utoipa_base.specs.WellFormed.{names_no_extension, KeyOf, AllExtensions, IsNoReference, IsUnambiguous, AreUnambiguous, AreUnambiguousEntries}
use Rattle.utoipa_base.proofs.ByName.{by_name_twice, read_put}
use Rattle.utoipa_base.proofs.TableNames.{may_be_empty, has_empty, are_apart, first_empty, first_once, others_apart, table_apart}
use Rattle.utoipa_base.proofs.WrittenMembers.{stands, fits-part, both_fit, write_rows-same, Lacks, lacks_extensions, lacks_put, write_rows-extension, some_if_any-normal, extensions-normal, merge-extensions, merge-entries}
use Rattle.utoipa_base.proofs.Alternatives.{schema_reads, types_read, ref_reads, own_reads, no_reference, tagged_reads}

-- what it is to read back at a place: a value from its tree, a field from the member that stands at its row's name, and a flow from its tree under its own key
abbrev pub Back : Doc → Place → Type 0
Back d (value_of k) = read k (write d) ≡ Some (normal_form d)
Back d (option_of k) = field_of optional k (stands (is_none d) (write d)) ≡ Some (normal_form d)
Back d flow_place = (key : List ℕ) → KeyOf key d → read_flow (chosen key flow_keys) (reader (write d)) ≡ Some (normal_form d)

-- what reads back at a place reads back at an equal place
at_place : (d : Doc) (p q : Place) → p ≡ q → Back d q → Back d p
at_place d p q e h = subst (λ (x : Place). Back d x) (sym e) h

-- ---- values that are one text, flag or number

-- a flag reads back wherever it may stand
flag_back : (b : Bool) (p : Place) → flag_fits b p ≡ true → Back (flag_doc b) p
unfolding reader write normal_form
flag_back b (value_of flag) h = refl
flag_back b (value_of additional_properties) h = refl
flag_back true (value_of array_items) h = absurd (true≢false (sym h))
flag_back false (value_of array_items) h = refl
flag_back b p h = absurd (true≢false (sym h))

-- the first text of a version reads as itself
version_31 : read_version (codes "3.1.0") ≡ Some (codes "3.1.0")
unfolding read_version
version_31 = refl

-- the second text of a version reads as itself
version_32 : read_version (codes "3.2.0") ≡ Some (codes "3.2.0")
unfolding read_version
version_32 = refl

-- a text that is one of the two reads as itself
version_by : (b : Bool) (s : List ℕ) → bytes_eq s (codes "3.1.0") ≡ b → b || bytes_eq s (codes "3.2.0") ≡ true → read_version s ≡ Some s
version_by true s e h = rw ((bytes_eq-Decides s (codes "3.1.0")).0 e) version_31
version_by false s e h = rw ((bytes_eq-Decides s (codes "3.2.0")).0 h) version_32

-- each of the two texts of a version reads as itself
version_back : (s : List ℕ) → is_version s ≡ true → read_version s ≡ Some s
version_back s h = version_by _ s refl h

-- a word reads back wherever it may stand
word_back : (s : List ℕ) (p : Place) → word_fits s p ≡ true → Back (word_doc s) p
unfolding reader write normal_form
word_back s (value_of (word_of v)) h = ap (λ b. read_word b s) h
word_back s (value_of version) h = ap (option_map word_doc) (version_back s h)
word_back s (value_of schema_type) h = ap (λ b. read_word b s) h
word_back s (value_of schema_format) h = rw h
word_back s p h = absurd (true≢false (sym h))

-- a UInt reads back
uint_back : (n : ℕ) → Back (uint_doc n) (value_of numeral)
unfolding reader write normal_form
uint_back n = refl

-- an Int reads back
int_back : (z : ℤ) → Back (int_doc z) (value_of numeral)
unfolding reader write normal_form
int_back (pos n) = refl
int_back (negsuc n) = refl

-- any tree reads back
tree_back : (d : Data) → Back (tree_doc d) (value_of any)
unfolding reader write normal_form
tree_back null = refl
tree_back (boolean b) = refl
tree_back (number n) = refl
tree_back (string s) = refl
tree_back (array ds) = refl
tree_back (object ms) = refl

-- ---- a row's field

-- a field that is written as null reads as none
some_back : (b : Bool) (o : Option Doc) (x : Doc) → o ≡ Some x → cond b (Some none_doc) (option_map some_doc o) ≡ Some (normal_some b x)
some_back true o x e = refl
some_back false o x e = ap (option_map some_doc) e

-- a field that is written even where it is none reads back
or_null_back : (d : Doc) (k : Kind) → Back d (option_of k) → field_of or_null k (Some (write d)) ≡ Some (normal_form d)
unfolding write normal_form
or_null_back none_doc k h = refl
or_null_back d k h = h

-- an empty text is what an absent text reads as
empty_text : (s : List ℕ) (k : Kind) → is_empty (text_doc s) ≡ true → value_of k ≡ value_of text → text_doc s ≡ empty_doc k
empty_text [] k e h = let same : k ≡ text = cc in ap empty_doc (sym same)
empty_text (c ∷ cs) k e h = absurd (true≢false (sym e))

-- false is what an absent flag reads as
empty_flag : (b : Bool) (k : Kind) → has_empty k ≡ true → is_empty (flag_doc b) ≡ true → flag_fits b (value_of k) ≡ true → flag_doc b ≡ empty_doc k
empty_flag true k m e h = absurd (true≢false (sym e))
empty_flag false flag m e h = refl
empty_flag false array_items m e h = absurd (true≢false (sym m))
empty_flag false additional_properties m e h = absurd (true≢false (sym m))
empty_flag false k m e h = absurd (true≢false (sym h))

-- an empty map is what an absent map reads as
empty_map : (k : Kind) (q : Place) → has_empty k ≡ true → entry_place (value_of k) ≡ Some q → map_doc no_entries ≡ empty_doc k
empty_map (map_of k) q m h = refl
empty_map flows q m h = absurd (true≢false (sym m))
empty_map k q m h = cc

-- an empty document that is left out has as its normal form what its absence reads as
empty_back : (d : Doc) (k : Kind) → has_empty k ≡ true → IsOf d (value_of k) → is_empty d ≡ true → normal_form d ≡ empty_doc k
unfolding IsOf normal_form
empty_back (text_doc s) k m i e = empty_text s k e i
empty_back (flag_doc b) k m i e = empty_flag b k m e i
empty_back any_value_doc k m i e = let same : k ≡ schema_type = cc in ap empty_doc (sym same)
empty_back (list_doc no_docs) k m i e = let same : k ≡ list_of i.0 = (let h : value_of k ≡ value_of (list_of i.0) = i.1 in cc) in ap empty_doc (sym same)
empty_back (list_doc (doc d ds)) k m i e = absurd (true≢false (sym e))
empty_back (map_doc no_entries) k m i e = empty_map k i.0 m i.1
empty_back (map_doc (entry name d es)) k m i e = absurd (true≢false (sym e))
empty_back (ordered_map_doc no_entries) k m i e = let same : k ≡ ordered_map_of i.0 = (let h : value_of k ≡ value_of (ordered_map_of i.0) = i.1 in cc) in ap empty_doc (sym same)
empty_back (ordered_map_doc (entry name d es)) k m i e = absurd (true≢false (sym e))
empty_back d k m i e = absurd (true≢false (sym e))

-- a field that is left out where it is empty reads back
defaulted_back : (b : Bool) (d : Doc) (k : Kind) → is_empty d ≡ b → has_empty k ≡ true → IsOf d (value_of k) → Back d (value_of k) → field_of defaulted k (stands b (write d)) ≡ Some (normal_form d)
defaulted_back true d k e m i h = ap Some (sym (empty_back d k m i e))
defaulted_back false d k e m i h = h

-- a field reads back from the member that stands at its row's name
field_back : (m : Mark) (k : Kind) (d : Doc) → may_be_empty m k ≡ true → IsOf d (field_place m k) → Back d (field_place m k) → field_of m k (stands (left_out m d) (write d)) ≡ Some (normal_form d)
field_back required k d m i h = h
field_back optional k d m i h = h
field_back or_null k d m i h = or_null_back d k h
field_back defaulted k d m i h = defaulted_back (is_empty d) d k refl m i h

-- ---- tables where they are expected

-- what stands for an object of a type is a table of that type
as_table : (d : Doc) (n : ObjectType) → IsOf d (value_of (named n)) → (ds : Docs) × (e : Option Members) × (d ≡ table_doc n ds e)
unfolding IsOf
as_table (text_doc s) n i = cc
as_table (flag_doc b) n i = cc
as_table (whole_doc m) n i = cc
as_table (int_doc z) n i = cc
as_table (uint_doc m) n i = cc
as_table (tree_doc d) n i = cc
as_table (word_doc s) n i = cc
as_table (custom_doc s) n i = cc
as_table (types_doc d) n i = cc
as_table any_value_doc n i = cc
as_table none_doc n i = cc
as_table (some_doc d) n i = cc
as_table (ref_doc k d) n i = cc
as_table (own_doc d) n i = cc
as_table (schema_doc d) n i = cc
as_table (tagged_doc name word d) n i = cc
as_table (flow_doc d) n i = cc
as_table (list_doc ds) n i = cc
as_table (map_doc es) n i = cc
as_table (ordered_map_doc es) n i = cc
as_table (entries_doc es e) n i = cc
as_table (table_doc m ds e) n i = (ds, e, (let h : value_of (named n) ≡ value_of (named m) = i.0 in let same : m ≡ n = cc in ap (λ l. table_doc l ds e) same))

-- ---- what holds others

-- a reference reads back
ref_back : (p : Place) (k : Kind) (d : Doc) → own_kind p ≡ Some k → Back d (value_of (named reference_object)) → Back (ref_doc k d) p
unfolding write normal_form
ref_back (value_of j) k d o h = ref_reads j k (write d) (normal_form d) o h
ref_back (option_of j) k d o h = cc
ref_back flow_place k d o h = cc

-- what stands in the place of a reference reads back
own_back : (p : Place) (k : Kind) (d : Doc) → own_kind p ≡ Some k → IsNoReference (write d) → Back d (value_of k) → Back (own_doc d) p
unfolding write normal_form
own_back (value_of j) k d o n h = own_reads j k (write d) (normal_form d) o (no_reference (write d) n) h
own_back (option_of j) k d o n h = cc
own_back flow_place k d o n h = cc

-- what a member decides reads back
tagged_back : (p : Place) (name word : List ℕ) (choices : List (List ℕ × Kind)) (k : Kind) (d : Doc) → choices_of p ≡ Some (name, choices) → chosen word choices ≡ Some k → Back d (value_of k)
    → Back (tagged_doc name word d) p
unfolding write normal_form
tagged_back (value_of j) name word choices k d c e h = tagged_reads j name word choices k (write d) (normal_form d) c e h
tagged_back (option_of j) name word choices k d c e h = cc
tagged_back flow_place name word choices k d c e h = cc

-- a table of an alternative reads back as a schema
table_schema : (n : ObjectType) (ds : Docs) (e : Option Members) → is_schema_type n ≡ true → IsUnambiguous (table_doc n ds e) → Back (table_doc n ds e) (value_of (named n))
    → Back (schema_doc (table_doc n ds e)) (value_of schema)
unfolding write normal_form IsUnambiguous
table_schema n ds e s t h = schema_reads n ds e _ s t.1 h

-- a schema reads back
schema_back : (d : Doc) (n : ObjectType) → is_schema_type n ≡ true → IsOf d (value_of (named n)) → IsUnambiguous d → Back d (value_of (named n)) → Back (schema_doc d) (value_of schema)
schema_back d n s i =
    let a : (ds : Docs) × (e : Option Members) × (d ≡ table_doc n ds e) = as_table d n i in
    let P : Doc → Type 0 = λ x. IsUnambiguous x → Back x (value_of (named n)) → Back (schema_doc x) (value_of schema) in
    subst P (sym a.2) (table_schema n a.0 a.1 s)

-- the key of a well-formed flow chooses the flow's type
own_key : (d : Doc) (n : ObjectType) (key : List ℕ) → IsOf d (value_of (named n)) → KeyOf key (flow_doc d) → chosen key flow_keys ≡ Some n
own_key d n key i =
    let a : (ds : Docs) × (e : Option Members) × (d ≡ table_doc n ds e) = as_table d n i in
    let P : Doc → Type 0 = λ x. KeyOf key (flow_doc x) → chosen key flow_keys ≡ Some n in
    subst P (sym a.2) (λ h. h)

-- a flow reads back under its own key
flow_back : (d : Doc) (n : ObjectType) → IsOf d (value_of (named n)) → Back d (value_of (named n)) → Back (flow_doc d) flow_place
unfolding write normal_form
flow_back d n i h = λ key own. ap (λ o. read_flow o (reader (write d))) (own_key d n key i own) ∙ ap (option_map flow_doc) h

-- an entry and the others are the entries
both_entries_fit : (name : List ℕ) (a : Option Doc) (b : Option Entries) (d : Doc) (es : Entries) → a ≡ Some d → b ≡ Some es → both_entries name a b ≡ Some (entry name d es)
both_entries_fit name a b d es e f = rw (e, f)

-- a map reads back by its entries, of a kind or flows
map_back : (es : Entries) (p q : Place) → entry_place p ≡ Some q → ((k : Kind) → EntriesOf es (value_of k) → read_entries k (parts (write_entries es)) ≡ Some (normal_entries es))
    → (EntriesOf es flow_place → read_flows (parts (write_entries es)) ≡ Some (normal_entries es)) → EntriesOf es q → Back (map_doc es) p
unfolding reader write normal_form
map_back es (value_of (map_of k)) q o values of_flows i =
    let same : q ≡ value_of k = cc in
    ap (option_map map_doc) (values k (subst (λ (x : Place). EntriesOf es x) same i))
map_back es (value_of flows) q o values of_flows i =
    let same : q ≡ flow_place = cc in
    ap (option_map map_doc) (of_flows (subst (λ (x : Place). EntriesOf es x) same i))
map_back es p q o values of_flows i = cc

-- a map that keeps its order reads back in the order of the names
ordered_map_back : (es : Entries) (k : Kind) → read_entries k (parts (put_written es no_members)) ≡ Some (by_name (normal_entries es)) → Back (ordered_map_doc es) (value_of (ordered_map_of k))
unfolding reader write normal_form
ordered_map_back es k h = ap (option_map (λ fs. ordered_map_doc (by_name fs))) h ∙ ap (λ fs. Some (ordered_map_doc fs)) (by_name_twice (normal_entries es))

-- entries with extensions read back
entries_doc_back : (es : Entries) (e : Option Members) (k : Kind) → names_no_extension es ≡ true → AllExtensions e → read_entries k (parts (write_entries es)) ≡ Some (normal_entries es)
    → Back (entries_doc es e) (value_of (entries_of k))
unfolding reader write normal_form
entries_doc_back es e k n x h =
    let ms : Members = merge_members (write_entries es) (members_or_none e) in
    ap (λ ps. option_map (λ fs. entries_doc fs (extensions_of true ms)) (read_entries k ps)) (merge-entries es (members_or_none e) n x)
    ∙ ap (option_map (λ fs. entries_doc fs (extensions_of true ms))) h
    ∙ ap (λ y. Some (entries_doc (normal_entries es) y)) (ap some_if_any (merge-extensions es (members_or_none e) n x) ∙ some_if_any-normal e)

-- a table reads back by its rows
table_back : (n : ObjectType) (ds : Docs) (e : Option Members) → Extends (has_extensions n) e → AllExtensions e
    → read_rows (table n) (parts (write_rows ds (table n) (members_or_none e))) ≡ Some (normal_docs ds) → Back (table_doc n ds e) (value_of (named n))
unfolding reader write normal_form
table_back n ds e x all h =
    let ms : Members = write_rows ds (table n) (members_or_none e) in
    ap (option_map (λ fs. table_doc n fs (extensions_of (has_extensions n) ms))) h
    ∙ ap (λ y. Some (table_doc n (normal_docs ds) y))
    (ap (λ y. cond (has_extensions n) (some_if_any y) None) (write_rows-extension ds (table n) (members_or_none e) (table_apart n)) ∙ extensions-normal (has_extensions n) e x all)

-- ---- everything

mutual
  unfolding IsOf ItemsOf EntriesOf RowsOf IsUnambiguous AreUnambiguous AreUnambiguousEntries normal_form normal_docs normal_entries write write_items write_entries put_written write_rows reader item_readers parts

  -- a well-formed document reads back at its place
  back : (d : Doc) (p : Place) → IsOf d p → IsUnambiguous d → Back d p
  back (text_doc s) p i t = at_place (text_doc s) p (value_of text) i refl
  back (flag_doc b) p i t = flag_back b p i
  back (whole_doc n) p i t = at_place (whole_doc n) p (value_of whole) i refl
  back (int_doc z) p i t = at_place (int_doc z) p (value_of numeral) i (int_back z)
  back (uint_doc n) p i t = at_place (uint_doc n) p (value_of numeral) i (uint_back n)
  back (tree_doc d) p i t = at_place (tree_doc d) p (value_of any) i (tree_back d)
  back (word_doc s) p i t = word_back s p i
  back (custom_doc s) p i t = at_place (custom_doc s) p (value_of schema_format) i refl
  back (types_doc d) p i t = at_place (types_doc d) p (value_of schema_type) i.0 (types_read (write d) (normal_form d) (back d (value_of (list_of (word_of type_word))) i.1 t))
  back any_value_doc p i t = at_place any_value_doc p (value_of schema_type) i refl
  back none_doc p i t = at_place none_doc p (option_of i.0) i.1 refl
  back (some_doc d) p i t = at_place (some_doc d) p (option_of i.0) i.1 (some_back (is_null (write d)) (read i.0 (write d)) (normal_form d) (back d (value_of i.0) i.2 t))
  back (ref_doc k d) p i t = ref_back p k d i.0 (back d (value_of (named reference_object)) i.1 t)
  back (own_doc d) p i t = own_back p i.0 d i.1 t.1 (back d (value_of i.0) i.2 t.0)
  back (schema_doc d) p i t = at_place (schema_doc d) p (value_of schema) i.1 (schema_back d i.0 i.2 i.3 t (back d (value_of (named i.0)) i.3 t))
  back (tagged_doc name word d) p i t = tagged_back p name word i.0 i.1 d i.2 i.3 (back d (value_of i.1) i.4 t)
  back (flow_doc d) p i t = at_place (flow_doc d) p flow_place i.1 (flow_back d i.0 i.3 (back d (value_of (named i.0)) i.3 t))
  back (list_doc ds) p i t = at_place (list_doc ds) p (value_of (list_of i.0)) i.1 (ap (option_map list_doc) (items_back ds i.0 i.2 t))
  back (map_doc es) p i t = map_back es p i.0 i.1 (λ k h. entries_back es k h t) (λ h. flows_back es h t) i.2
  back (ordered_map_doc es) p i t = at_place (ordered_map_doc es) p (value_of (ordered_map_of i.0)) i.1 (ordered_map_back es i.0 (puts_back es i.0 no_members no_entries i.2 t refl))
  back (entries_doc es e) p i t = at_place (entries_doc es e) p (value_of (entries_of i.0)) i.1 (entries_doc_back es e i.0 t.1 t.2 (entries_back es i.0 i.2 t.0))
  back (table_doc n ds e) p i t =
      at_place (table_doc n ds e) p (value_of (named n)) i.0
      (table_back n ds e i.2 t.1 (rows_back ds (table n) (members_or_none e) i.1 t.0 (table_apart n) (lacks_extensions (table n) (members_or_none e) (table_apart n) t.1)))

  -- the items of a list read back
  items_back : (ds : Docs) (k : Kind) → ItemsOf ds k → AreUnambiguous ds → read_items k (item_readers (write_items ds)) ≡ Some (normal_docs ds)
  items_back no_docs k i t = refl
  items_back (doc d ds) k i t = both_fit _ _ (normal_form d) (normal_docs ds) (back d (value_of k) i.0 t.0) (items_back ds k i.1 t.1)

  -- the entries of a map read back
  entries_back : (es : Entries) (k : Kind) → EntriesOf es (value_of k) → AreUnambiguousEntries es → read_entries k (parts (write_entries es)) ≡ Some (normal_entries es)
  entries_back no_entries k i t = refl
  entries_back (entry name d es) k i t = both_entries_fit name _ _ (normal_form d) (normal_entries es) (back d (value_of k) i.0 t.0) (entries_back es k i.1 t.2)

  -- the entries of a map that keeps its order read back, put among those before them
  puts_back : (es : Entries) (k : Kind) (ms : Members) (fs : Entries) → EntriesOf es (value_of k) → AreUnambiguousEntries es → read_entries k (parts ms) ≡ Some fs
      → read_entries k (parts (put_written es ms)) ≡ Some (put_entries (normal_entries es) fs)
  puts_back no_entries k ms fs i t h = h
  puts_back (entry name d es) k ms fs i t h =
      puts_back es k (put name (write d) ms) (put_entry name (normal_form d) fs) i.1 t.2 (read_put k name (write d) (normal_form d) (back d (value_of k) i.0 t.0) ms fs h)

  -- flows read back, each under its own key
  flows_back : (es : Entries) → EntriesOf es flow_place → AreUnambiguousEntries es → read_flows (parts (write_entries es)) ≡ Some (normal_entries es)
  flows_back no_entries i t = refl
  flows_back (entry name d es) i t = both_entries_fit name _ _ (normal_form d) (normal_entries es) (back d flow_place i.0 t.0 name t.1) (flows_back es i.1 t.2)

  -- the rows of a table read back
  rows_back : (ds : Docs) (rs : List Row) (start : Members) → RowsOf ds rs → AreUnambiguous ds → are_apart rs ≡ true → Lacks rs start
      → read_rows rs (parts (write_rows ds rs start)) ≡ Some (normal_docs ds)
  rows_back no_docs [] start i t a l = refl
  rows_back no_docs (r ∷ rs) start i t a l = absurd i
  rows_back (doc d ds) [] start i t a l = absurd i
  rows_back (doc d ds) (r ∷ rs) start i t a l =
      let next : Members = put_row r d (write d) start in
      let here : get_member r.name (write_rows ds rs next) ≡ stands (left_out r.mark d) (write d) = write_rows-same r d ds rs start (first_once r rs a) l.0 in
      both_fit _ _ (normal_form d) (normal_docs ds)
      (fits-part r (write_rows ds rs next) ∙ ap (field_of r.mark r.kind) here ∙ field_back r.mark r.kind d (first_empty r rs a) i.0 (back d (field_place r.mark r.kind) i.0 t.0))
      (rows_back ds rs next i.1 t.1 (others_apart r rs a) (lacks_put rs r d (write d) start (first_once r rs a) l.1))

-- a well-formed document reads back from its own tree as its normal form
pub reads_back : (d : Doc) (k : Kind) → IsOf d (value_of k) → IsUnambiguous d → read k (write d) ≡ Some (normal_form d)
reads_back d k i t = back d (value_of k) i t

-- well-formed documents that are written alike have one normal form
pub one_normal_form : (c d : Doc) (k : Kind) → IsOf c (value_of k) → IsUnambiguous c → IsOf d (value_of k) → IsUnambiguous d → write c ≡ write d → normal_form c ≡ normal_form d
one_normal_form c d k i t j u e =
    let first : read k (write c) ≡ Some (normal_form c) = reads_back c k i t in
    let second : read k (write d) ≡ Some (normal_form d) = reads_back d k j u in
    let same : read k (write c) ≡ read k (write d) = ap (read k) e in
    cc
