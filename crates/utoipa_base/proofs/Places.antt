-- References, and what stands in their place.
use Rattle.std.proofs.Common.{◌≡◌, ℕ, Bool, ◌+◌, ◌<◌, ◌≤◌, List, false, Option, None, option_map, refl, ap, ◌∙◌, arith, nat_lt, if◌then◌else◌}
use Rattle.std.proofs.lemmas.Bool.Decides.{nat_tests}
use Rattle.serde_json.specs.Data.{Data, null, boolean, number, string, array, object, Members}
use Rattle.utoipa_base.specs.declared.fault.ReadFault.{ReadFault}
use Rattle.utoipa_base.specs.declared.fault.ReadFault.TheVariants.{Memory, Fraction, Missing, Kind as no_kind, Word, Alternative, Text}
use Rattle.utoipa_base.specs.Faults.{Refuses}
use Rattle.utoipa_base.specs.Kinds.{ObjectType, reference_object, Kind, text, flag, list_of, map_of, ordered_map_of, named, schema, schema_type, ref_or}
use Rattle.utoipa_base.specs.Docs.{Doc, text_doc, flag_doc, whole_doc, tree_doc, none_doc, some_doc, ref_doc, own_doc, list_doc, map_doc, table_doc, Docs, no_docs, doc, Entries, no_entries}
use Rattle.utoipa_base.specs.Reading.{reader, read, or_else, empty_doc}
use Rattle.utoipa_base.specs.Writing.{write}
use Rattle.utoipa_base.specs.OfKind.{reference_of_kind}
use Rattle.utoipa_base.specs.Refs.{reference_doc}
use Rattle.utoipa_base.specs.declared.refs.Ref.{Ref}
use Rattle.utoipa_base.specs.Values.{values, schema_count, docs_schema_count, entries_schema_count, is_schema}
use Rattle.utoipa_base.proofs.WithoutSchemas.{counts_none}

-- a fault other than memory: there is no document
pub refused : (o : Option Doc) (e : ReadFault) → Refuses o e → (e ≡ Memory → ⊥) → o ≡ None
refused o Memory r n = absurd (n refl)
refused o Fraction r n = absurd r
refused o (Missing s) r n = r
refused o (no_kind s) r n = r
refused o (Word s) r n = r
refused o Alternative r n = r
refused o Text r n = absurd r

pub own_none : (j : Kind) (w : Data) → read (named reference_object) w ≡ None → read j w ≡ None → read (ref_or j) w ≡ None
unfolding reader
own_none j null n e = ap (option_map own_doc) e
own_none j (boolean b) n e = ap (option_map own_doc) e
own_none j (number m) n e = ap (option_map own_doc) e
own_none j (string s) n e = ap (option_map own_doc) e
own_none j (array ds) n e = ap (option_map own_doc) e
own_none j (object ms) n e = ap (λ r. or_else (option_map (ref_doc j) r) (option_map own_doc (read j (object ms)))) n ∙ ap (option_map own_doc) e

-- a reference in the place of a kind that is no schema counts nothing
pub reference_uncounted : (k : Kind) (d : Doc) → is_schema k ≡ false → schema_count (ref_doc k d) ≡ 0
unfolding schema_count
reference_uncounted schema d e = cc
reference_uncounted k d e = refl

pub reference_counted : (k : Kind) (d : Doc) → schema_count (ref_doc k d) ≤ 1
unfolding schema_count
reference_counted schema d = omega arith
reference_counted k d = omega arith

pub own_places : (d : Doc) → schema_count (own_doc d) ≡ schema_count d
unfolding schema_count
own_places d = refl

pub some_value : (t : Data) → 1 ≤ values t
unfolding values
some_value null = omega arith
some_value (boolean b) = omega arith
some_value (number n) = omega arith
some_value (string s) = omega arith
some_value (array ds) = omega arith
some_value (object ms) = omega arith

pub write-ref : (k : Kind) (d : Doc) → write (ref_doc k d) ≡ write d
unfolding write
write-ref k d = refl

pub write-own : (d : Doc) → write (own_doc d) ≡ write d
unfolding write
write-own d = refl

pub ruleset by_places = (reference_uncounted, own_places, some_value, write-ref, write-own)

-- ---- the schema places of each sort of document

pub schema_count-text : (s : List ℕ) → schema_count (text_doc s) ≡ 0
unfolding schema_count
schema_count-text s = refl

pub schema_count-flag : (b : Bool) → schema_count (flag_doc b) ≡ 0
unfolding schema_count
schema_count-flag b = refl

pub schema_count-whole : (n : ℕ) → schema_count (whole_doc n) ≡ 0
unfolding schema_count
schema_count-whole n = refl

pub schema_count-tree : (d : Data) → schema_count (tree_doc d) ≡ 0
unfolding schema_count
schema_count-tree d = refl

pub schema_count-none : schema_count none_doc ≡ 0
unfolding schema_count
schema_count-none = refl

pub schema_count-some : (d : Doc) → schema_count (some_doc d) ≡ schema_count d
unfolding schema_count
schema_count-some d = refl

pub schema_count-list : (ds : Docs) → schema_count (list_doc ds) ≡ docs_schema_count ds
unfolding schema_count
schema_count-list ds = refl

pub schema_count-map : (es : Entries) → schema_count (map_doc es) ≡ entries_schema_count es
unfolding schema_count
schema_count-map es = refl

pub docs_schema_count-none : docs_schema_count no_docs ≡ 0
unfolding docs_schema_count
docs_schema_count-none = refl

pub docs_schema_count-cons : (d : Doc) (ds : Docs) → docs_schema_count (doc d ds) ≡ schema_count d + docs_schema_count ds
unfolding docs_schema_count
docs_schema_count-cons d ds = refl

pub entries_schema_count-none : entries_schema_count no_entries ≡ 0
unfolding entries_schema_count
entries_schema_count-none = refl

pub schema_count-table : (n : ObjectType) (ds : Docs) (e : Option Members) → schema_count (table_doc n ds e) ≡ docs_schema_count ds
unfolding schema_count
schema_count-table n ds e = refl

-- an empty document holds no schema
pub schema_count-empty : (k : Kind) → schema_count (empty_doc k) ≡ 0
unfolding schema_count docs_schema_count entries_schema_count
schema_count-empty text = refl
schema_count-empty flag = refl
schema_count-empty (list_of k) = refl
schema_count-empty (map_of k) = refl
schema_count-empty (ordered_map_of k) = refl
schema_count-empty schema_type = refl
schema_count-empty k = refl

-- a reference holds no schema
pub schema_count-reference : (r : Ref) → schema_count (reference_doc r) ≡ 0
schema_count-reference r = counts_none (reference_doc r) (named reference_object) refl (reference_of_kind r)

pub ruleset places = (schema_count-empty, schema_count-reference, schema_count-text, schema_count-flag, schema_count-whole, schema_count-tree, schema_count-none, schema_count-some, own_places, schema_count-list, schema_count-map)

-- ---- a counter after one tick

pub ticked_least : (old new most : ℕ) → new ≡ (if nat_lt old most then old + 1 else old) → new < most → old + 1 ≤ new
ticked_least old new most e h = grind (arith, nat_tests)

pub ticked_grows : (old new most : ℕ) → new ≡ (if nat_lt old most then old + 1 else old) → old ≤ new
ticked_grows old new most e = grind (arith, nat_tests)

pub ticked_most : (old new most : ℕ) → new ≡ (if nat_lt old most then old + 1 else old) → new ≤ old + 1
ticked_most old new most e = grind (arith, nat_tests)

-- ---- a counter in a loop

-- the places of what was read before, and of one more
pub counted_more : (start old new before after one : ℕ) → (old < 18446744073709551615 → start + before ≤ old) → old ≤ new → (new < 18446744073709551615 → old + one ≤ new) → after ≡ before + one
    → new < 18446744073709551615 → start + after ≤ new
counted_more start old new before after one done grows more is below = omega (arith, done (omega (arith, grows, below)), more below)
