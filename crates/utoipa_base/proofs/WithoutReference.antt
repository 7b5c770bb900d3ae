-- Why an object has no text at `$ref`.
use Rattle.std.proofs.Common.{◌≡◌, ℕ, List, [], ◌∷◌, true, false, not, Option, None, Some, is_some, option_and_then, codes, refl, sym, ap, ◌∙◌, nat_cmp, Ordering, Less, Equal, Greater, String, Global, string_bytes}
use Rattle.std.specs.BTreeMap.{BTreeMap}
use Rattle.std.specs.Cmp.Lexicographic.{slice_cmp}
use Rattle.std.specs.Ordering.{match_ordering}
use Rattle.std.specs.Str.{bytes_eq}
use Rattle.serde_json.specs.Data.{Data, null, boolean, number, string, array, object, Members}
use Rattle.serde_json.specs.Find.{get_member, as_str}
use Rattle.serde_json.proofs.Views.{get_member-put_other}
use Rattle.utoipa_base.specs.Docs.{Doc, schema_doc, tagged_doc, table_doc, Docs, entries_of_list}
use Rattle.utoipa_base.specs.Extensions.{members_or_none}
use Rattle.utoipa_base.specs.Kinds.{ObjectType, Kind}
use Rattle.utoipa_base.specs.Refs.{ref_or_doc}
use Rattle.utoipa_base.specs.Tables.{table}
use Rattle.utoipa_base.specs.Views.{pairs_of, map_of_docs}
use Rattle.utoipa_base.specs.Writing.{write, write_rows, write_entries, with_member}
use Rattle.utoipa_base.specs.declared.refs.RefOr.{RefOr}
use Rattle.utoipa_base.specs.declared.refs.RefOr.TheVariants as made
use Rattle.utoipa_base.proofs.BoolFacts.{and_second, apart}
use Rattle.utoipa_base.proofs.TableNames.{is_row}
use Rattle.utoipa_base.proofs.WrittenMembers.{unnamed, write_rows-other}
use Rattle.utoipa_base.specs.Unambiguous.{is_unambiguous, are_unambiguous, is_no_reference, are_extensions}
use Rattle.utoipa_base.proofs.UnambiguousParts.{unambiguous-table, unambiguous-schema}

-- an object without the member
nothing_there : (ms : Members) → get_member (codes "$ref") ms ≡ None → is_no_reference (object ms) ≡ true
nothing_there ms e = ap (λ o. not (is_some (option_and_then as_str o))) e

-- no row of the type's table is `$ref`, and no extension is
lacks_reference : (n : ObjectType) (ds : Docs) (e : Option Members) → is_row (codes "$ref") (table n) ≡ false → are_extensions e ≡ true
    → get_member (codes "$ref") (write_rows ds (table n) (members_or_none e)) ≡ None
lacks_reference n ds e no_row extends = write_rows-other (codes "$ref") ds (table n) (members_or_none e) no_row ∙ unnamed (members_or_none e) (codes "$ref") extends refl

-- an object of a type that has no row of the name
pub table_reads_alone : (n : ObjectType) (ds : Docs) (e : Option Members) → is_row (codes "$ref") (table n) ≡ false → is_unambiguous (table_doc n ds e) ≡ true
    → is_no_reference (write (table_doc n ds e)) ≡ true
unfolding write
table_reads_alone n ds e no_row whole =
    nothing_there (write_rows ds (table n) (members_or_none e)) (lacks_reference n ds e no_row (and_second (are_unambiguous ds) (are_extensions e) (sym (unambiguous-table n ds e) ∙ whole)))

-- ---- what else stands in the place of a reference

-- a schema, as the table of its alternative
pub schema_reads_alone : (d : Doc) → is_no_reference (write d) ≡ true → is_no_reference (write (schema_doc d)) ≡ true
unfolding write
schema_reads_alone d e = e

-- a member of another name does not make a reference of a tree
with_other : (name word : List ℕ) (t : Data) → bytes_eq (codes "$ref") name ≡ false → is_no_reference t ≡ true → is_no_reference (with_member name (string word) t) ≡ true
with_other name word null other e = refl
with_other name word (boolean b) other e = refl
with_other name word (number n) other e = refl
with_other name word (string s) other e = refl
with_other name word (array ds) other e = refl
with_other name word (object ms) other e = ap (λ o. not (is_some (option_and_then as_str o))) (get_member-put_other (codes "$ref") name (string word) ms (apart (codes "$ref") name other)) ∙ e

pub tagged_reads_alone : (name word : List ℕ) (d : Doc) → bytes_eq (codes "$ref") name ≡ false → is_no_reference (write d) ≡ true → is_no_reference (write (tagged_doc name word d)) ≡ true
unfolding write
tagged_reads_alone name word d other e = with_other name word (write d) other e

-- a schema that is the table of this alternative
pub alternative_reads_alone : (n : ObjectType) (s : Doc) (ds : Docs) (e : Option Members) → is_row (codes "$ref") (table n) ≡ false → s ≡ schema_doc (table_doc n ds e) → is_unambiguous s ≡ true
    → true ≡ is_no_reference (write s)
alternative_reads_alone n s ds e no_row is whole =
    sym (ap (λ d. is_no_reference (write d)) is ∙ schema_reads_alone (table_doc n ds e) (table_reads_alone n ds e no_row (sym (ap is_unambiguous is ∙ unambiguous-schema (table_doc n ds e)) ∙ whole)))

-- ---- a map of places of references

-- the member of a name, where neither it nor one of the others is a text
member_is_no_text : (o : Ordering) (d : Data) (rest : Option Data) → as_str d ≡ None → option_and_then as_str rest ≡ None → option_and_then as_str (match_ordering o rest (Some d) rest) ≡ None
member_is_no_text Less d rest here others = others
member_is_no_text Equal d rest here others = here
member_is_no_text Greater d rest here others = others

entries_are_no_text : {X : Type 0} (f : X → Doc) → ((x : X) → as_str (write (f x)) ≡ None) → (es : List (String Global × X))
    → option_and_then as_str (get_member (codes "$ref") (write_entries (entries_of_list (pairs_of f es)))) ≡ None
unfolding write write_entries
entries_are_no_text f each [] = refl
entries_are_no_text f each (e ∷ es) = member_is_no_text (slice_cmp nat_cmp (codes "$ref") (string_bytes e.0)) (write (f e.1)) _ (each e.1) (entries_are_no_text f each es)

-- a value in place of a reference, or a reference, is no text
place_is_no_text : {X : Type 0} (k : Kind) (f : X → Doc) → ((x : X) → as_str (write (f x)) ≡ None) → (r : RefOr X) → as_str (write (ref_or_doc k f r)) ≡ None
unfolding write
place_is_no_text k f each (made.Ref r) = refl
place_is_no_text k f each (made.T x) = each x

pub places_read_alone : {X : Type 0} (k : Kind) (f : X → Doc) → ((x : X) → as_str (write (f x)) ≡ None) → (m : BTreeMap (String Global) (RefOr X)) → true ≡ is_no_reference (write (map_of_docs (ref_or_doc k f) m))
unfolding write
places_read_alone k f each m = sym (ap (λ o. not (is_some o)) (entries_are_no_text (ref_or_doc k f) (place_is_no_text k f each) m.entries))
