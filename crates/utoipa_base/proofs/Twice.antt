-- The normal form of a normal form is itself.
use Rattle.std.proofs.Common.{◌≡◌, ℕ, ℤ, pos, negsuc, ◌^◌, List, Bool, true, false, Option, Some, None, refl, sym, ap, ◌∙◌, nat_lt, cond}
use Rattle.serde_json.specs.Data.{Data, null, boolean, number, string, array, object, Members, no_members, member}
use Rattle.utoipa_base.specs.Kinds.{known_format}
use Rattle.utoipa_base.specs.Words.{is_word}
use Rattle.utoipa_base.specs.Docs.{Doc, text_doc, flag_doc, whole_doc, int_doc, uint_doc, tree_doc, word_doc, custom_doc, types_doc, any_value_doc, none_doc, some_doc, ref_doc, own_doc, schema_doc, tagged_doc, flow_doc, list_doc, map_doc, ordered_map_doc, entries_doc, table_doc, Docs, no_docs, doc, Entries, no_entries, entry}
use Rattle.utoipa_base.specs.Reading.{is_null, read_format, numeral_doc}
use Rattle.utoipa_base.specs.Writing.{write, with_member}
use Rattle.utoipa_base.specs.ByName.{by_name}
use Rattle.utoipa_base.specs.NormalForm.{normal_form, normal_docs, normal_entries, normal_some, normal_extensions}
use Rattle.utoipa_base.proofs.ByName.{by_name-normal}

-- ---- what is written as null

-- an unsigned number is not written as null, by whether it is an i64
uint_written_by : (b : Bool) (n : ℕ) → is_null (write (cond b (int_doc (pos n)) (uint_doc n))) ≡ false
unfolding write
uint_written_by true n = refl
uint_written_by false n = refl

-- a normal unsigned number is not written as null
pub uint_written : (n : ℕ) → is_null (write (numeral_doc (pos n))) ≡ false
uint_written n = uint_written_by (nat_lt n (2 ^ 63)) n

-- a normal number is not written as null
int_written : (z : ℤ) → is_null (write (numeral_doc z)) ≡ false
unfolding write
int_written (pos n) = uint_written n
int_written (negsuc n) = refl

-- a format is not written as null
pub format_written : (b : Bool) (s : List ℕ) → is_null (write (read_format b s)) ≡ false
unfolding write
format_written true s = refl
format_written false s = refl

-- one more member makes no tree null, and keeps null
pub with_null : (name : List ℕ) (d t : Data) → is_null (with_member name d t) ≡ is_null t
with_null name d null = refl
with_null name d (boolean b) = refl
with_null name d (number n) = refl
with_null name d (string s) = refl
with_null name d (array ds) = refl
with_null name d (object ms) = refl

-- a field is written as null where it is none
some_written : (b : Bool) (d : Doc) → is_null (write d) ≡ b → is_null (write (normal_some b d)) ≡ b
unfolding write
some_written true d h = refl
some_written false d h = h

-- a document in normal form is written as null where the document is
pub null_normal : (d : Doc) → is_null (write (normal_form d)) ≡ is_null (write d)
unfolding normal_form write
null_normal (text_doc s) = refl
null_normal (flag_doc b) = refl
null_normal (whole_doc n) = refl
null_normal (int_doc z) = int_written z
null_normal (uint_doc n) = uint_written n
null_normal (tree_doc d) = refl
null_normal (word_doc s) = refl
null_normal (custom_doc s) = format_written (is_word known_format s) s
null_normal (types_doc d) = null_normal d
null_normal any_value_doc = refl
null_normal none_doc = refl
null_normal (some_doc d) = some_written (is_null (write d)) (normal_form d) (null_normal d)
null_normal (ref_doc k d) = null_normal d
null_normal (own_doc d) = null_normal d
null_normal (schema_doc d) = null_normal d
null_normal (tagged_doc name word d) = with_null name (string word) (write (normal_form d)) ∙ null_normal d ∙ sym (with_null name (string word) (write d))
null_normal (flow_doc d) = null_normal d
null_normal (list_doc ds) = refl
null_normal (map_doc es) = refl
null_normal (ordered_map_doc es) = refl
null_normal (entries_doc es e) = refl
null_normal (table_doc n ds e) = refl

-- ---- the normal form twice

-- an unsigned number, by whether it is an i64
twice_uint_by : (b : Bool) (n : ℕ) → nat_lt n (2 ^ 63) ≡ b → normal_form (cond b (int_doc (pos n)) (uint_doc n)) ≡ cond b (int_doc (pos n)) (uint_doc n)
unfolding normal_form
twice_uint_by true n e = ap (λ b. cond b (int_doc (pos n)) (uint_doc n)) e
twice_uint_by false n e = ap (λ b. cond b (int_doc (pos n)) (uint_doc n)) e

-- an unsigned number
pub twice_uint : (n : ℕ) → normal_form (numeral_doc (pos n)) ≡ numeral_doc (pos n)
twice_uint n = twice_uint_by (nat_lt n (2 ^ 63)) n refl

-- a number
twice_int : (z : ℤ) → normal_form (numeral_doc z) ≡ numeral_doc z
unfolding normal_form
twice_int (pos n) = twice_uint n
twice_int (negsuc n) = refl

-- a format
pub twice_format : (b : Bool) (s : List ℕ) → is_word known_format s ≡ b → normal_form (read_format b s) ≡ read_format b s
unfolding normal_form
twice_format true s e = refl
twice_format false s e = ap (λ b. read_format b s) e

-- a field in which a document in normal form stands
twice_some : (b : Bool) (d : Doc) → is_null (write d) ≡ b → normal_form d ≡ d → normal_form (normal_some b d) ≡ normal_some b d
unfolding normal_form
twice_some true d n h = refl
twice_some false d n h = ap (λ b. normal_some b (normal_form d)) n ∙ ap some_doc h

-- extensions
twice_extensions : (e : Option Members) → normal_extensions (normal_extensions e) ≡ normal_extensions e
twice_extensions None = refl
twice_extensions (Some no_members) = refl
twice_extensions (Some (member k d ms)) = refl

mutual
  unfolding normal_form normal_docs normal_entries

  -- the normal form of a normal form is itself
  pub normal_form_twice : (d : Doc) → normal_form (normal_form d) ≡ normal_form d
  normal_form_twice (text_doc s) = refl
  normal_form_twice (flag_doc b) = refl
  normal_form_twice (whole_doc n) = refl
  normal_form_twice (int_doc z) = twice_int z
  normal_form_twice (uint_doc n) = twice_uint n
  normal_form_twice (tree_doc d) = refl
  normal_form_twice (word_doc s) = refl
  normal_form_twice (custom_doc s) = twice_format (is_word known_format s) s refl
  normal_form_twice (types_doc d) = ap types_doc (normal_form_twice d)
  normal_form_twice any_value_doc = refl
  normal_form_twice none_doc = refl
  normal_form_twice (some_doc d) = twice_some (is_null (write d)) (normal_form d) (null_normal d) (normal_form_twice d)
  normal_form_twice (ref_doc k d) = ap (ref_doc k) (normal_form_twice d)
  normal_form_twice (own_doc d) = ap own_doc (normal_form_twice d)
  normal_form_twice (schema_doc d) = ap schema_doc (normal_form_twice d)
  normal_form_twice (tagged_doc name word d) = ap (tagged_doc name word) (normal_form_twice d)
  normal_form_twice (flow_doc d) = ap flow_doc (normal_form_twice d)
  normal_form_twice (list_doc ds) = ap list_doc (twice_docs ds)
  normal_form_twice (map_doc es) = ap map_doc (twice_entries es)
  normal_form_twice (ordered_map_doc es) = ap ordered_map_doc (by_name-normal (normal_entries es) ∙ ap by_name (twice_entries es))
  normal_form_twice (entries_doc es e) = ap (λ xs. entries_doc xs (normal_extensions (normal_extensions e))) (twice_entries es) ∙ ap (entries_doc (normal_entries es)) (twice_extensions e)
  normal_form_twice (table_doc n ds e) = ap (λ xs. table_doc n xs (normal_extensions (normal_extensions e))) (twice_docs ds) ∙ ap (table_doc n (normal_docs ds)) (twice_extensions e)

  -- the documents of a list
  twice_docs : (ds : Docs) → normal_docs (normal_docs ds) ≡ normal_docs ds
  twice_docs no_docs = refl
  twice_docs (doc d ds) = ap (λ x. doc x (normal_docs (normal_docs ds))) (normal_form_twice d) ∙ ap (doc (normal_form d)) (twice_docs ds)

  -- the entries of a map
  twice_entries : (es : Entries) → normal_entries (normal_entries es) ≡ normal_entries es
  twice_entries no_entries = refl
  twice_entries (entry k d es) = ap (λ x. entry k x (normal_entries (normal_entries es))) (normal_form_twice d) ∙ ap (entry k (normal_form d)) (twice_entries es)
