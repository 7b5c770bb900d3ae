-- A table's rows, read and written.
use Rattle.std.proofs.Common.{◌≡◌, ℕ, List, [], ◌∷◌, Bool, true, false, Option, Some, None, option_map, refl, sym, ap, ◌∙◌, nat_cmp, is_some, Result, Ok, Err, IfErr, subst, Ordering, Less, Equal, Greater}
use Rattle.std.specs.Ordering.{match_ordering}
use Rattle.std.specs.Cmp.Lexicographic.{slice_cmp}
use Rattle.serde_json.specs.Data.{Data, null, boolean, number, string, array, object, Members, no_members, member, put}
use Rattle.serde_json.specs.Find.{get, get_member, as_object, as_null}
use Rattle.std.specs.Result.{IsErrAnd}
use Rattle.utoipa_base.specs.declared.fault.ReadFault.{ReadFault}
use Rattle.utoipa_base.specs.declared.fault.ReadFault.TheVariants.{Memory, Fraction, Missing, Kind as no_kind, Word, Alternative, Text}
use Rattle.utoipa_base.specs.Faults.{Refuses}
use Rattle.utoipa_base.specs.Kinds.{ObjectType, Kind, named, Mark, required, optional, or_null, defaulted, Row}
use Rattle.utoipa_base.specs.Docs.{Doc, none_doc, some_doc, table_doc, Docs, no_docs, doc}
use Rattle.utoipa_base.specs.Tables.{table, has_extensions, row}
use Rattle.utoipa_base.specs.Extensions.{extensions_of, extensions_at}
use Rattle.utoipa_base.specs.Reading.{reader, parts, part, part_of, fits, read, read_rows, both, is_null}
use Rattle.utoipa_base.specs.Writing.{write, is_empty, put_unless}
use Rattle.utoipa_base.specs.Fields.{field, field_of, present, fields, put_field}

pub field-row : (name : List ℕ) (m : Mark) (k : Kind) (d : Data) → field (row name m k) d ≡ field_of m k (get name d)
unfolding field
field-row name m k d = refl

pub put_field-required : (name : List ℕ) (k : Kind) (d : Doc) (ms : Members) → put_field (row name required k) d ms ≡ put name (write d) ms
unfolding put_field
put_field-required name k d ms = refl

pub put_field-null : (name : List ℕ) (k : Kind) (ms : Members) → put_field (row name or_null k) none_doc ms ≡ put name null ms
unfolding put_field write
put_field-null name k ms = refl

pub put_field-there : (name : List ℕ) (k : Kind) (d : Doc) (ms : Members) → put_field (row name or_null k) (some_doc d) ms ≡ put name (write d) ms
unfolding put_field write
put_field-there name k d ms = refl

pub put_field-none : (name : List ℕ) (k : Kind) (ms : Members) → put_field (row name optional k) none_doc ms ≡ ms
unfolding put_field
put_field-none name k ms = refl

pub put_field-some : (name : List ℕ) (k : Kind) (d : Doc) (ms : Members) → put_field (row name optional k) (some_doc d) ms ≡ put name (write d) ms
unfolding put_field write
put_field-some name k d ms = refl

pub null_as : (d : Data) → is_null d ≡ is_some (as_null d)
null_as null = refl
null_as (boolean b) = refl
null_as (number n) = refl
null_as (string s) = refl
null_as (array ds) = refl
null_as (object ms) = refl

pub put_field-empty : (name : List ℕ) (k : Kind) (d : Doc) (ms : Members) → is_empty d ≡ true → put_field (row name defaulted k) d ms ≡ ms
unfolding put_field
put_field-empty name k d ms e = ap (λ b. put_unless b name (write d) ms) e

pub put_field-full : (name : List ℕ) (k : Kind) (d : Doc) (ms : Members) → is_empty d ≡ false → put_field (row name defaulted k) d ms ≡ put name (write d) ms
unfolding put_field
put_field-full name k d ms e = ap (λ b. put_unless b name (write d) ms) e

-- an `or_null` member is read as an optional one
pub field-or_null : (name : List ℕ) (k : Kind) (d : Data) → field (row name or_null k) d ≡ field (row name optional k) d
unfolding field
field-or_null name k d = elim (get name d) as (λ o. field_of or_null k o ≡ field_of optional k o) [ None ↦ refl | Some e ↦ refl ]

-- a member that may be absent, by what stands at its name
abbrev pub present_at : Kind → Option Data → Option Doc
present_at k None = Some none_doc
present_at k (Some d) = option_map some_doc (read k d)

pub present-at : (name : List ℕ) (k : Kind) (d : Data) → present name k d ≡ present_at k (get name d)
unfolding present
present-at name k d = elim (get name d) as (λ o. elim o [ None ↦ Some none_doc | Some e ↦ option_map some_doc (read k e) ] ≡ present_at k o) [ None ↦ refl | Some e ↦ refl ]

pub ruleset by_row = (present-at, put_field-null, put_field-there, put_field-empty, put_field-full, field-row, put_field-required, put_field-none, put_field-some, null_as)

-- ---- a whole table

part_by : (o : Ordering) {A B : Type 0} (f : A → B) (a : A) (x : Option A) (y : Option B) → y ≡ option_map f x → match_ordering o y (Some (f a)) y ≡ option_map f (match_ordering o x (Some a) x)
part_by Less f a x y e = e
part_by Equal f a x y e = refl
part_by Greater f a x y e = e

pub part-parts : (name : List ℕ) (ms : Members) → part name (parts ms) ≡ option_map part_of (get_member name ms)
unfolding parts
part-parts name no_members = refl
part-parts name (member k d ms) = part_by (slice_cmp nat_cmp name k) part_of d _ _ (part-parts name ms)

rows_by_fields : (rs : List Row) (ms : Members) → read_rows rs (parts ms) ≡ fields rs (object ms)
unfolding field fields
rows_by_fields [] ms = refl
rows_by_fields (r ∷ rs) ms = ap (λ x. both x (read_rows rs (parts ms))) (ap (fits r.mark r.kind) (part-parts r.name ms))
    ∙ ap (both (field_of r.mark r.kind (get_member r.name ms))) (rows_by_fields rs ms)

pub read-named : (n : ObjectType) (d : Data) → is_some (as_object d) ≡ true → read (named n) d ≡ option_map (λ ds. table_doc n ds (extensions_at (has_extensions n) d)) (fields (table n) d)
unfolding reader
read-named n null e = cc
read-named n (boolean b) e = cc
read-named n (number x) e = cc
read-named n (string s) e = cc
read-named n (array ds) e = cc
read-named n (object ms) e = ap (option_map (λ ds. table_doc n ds (extensions_of (has_extensions n) ms))) (rows_by_fields (table n) ms)

pub read-no_object : (n : ObjectType) (d : Data) → is_some (as_object d) ≡ false → read (named n) d ≡ None
unfolding reader
read-no_object n null e = refl
read-no_object n (boolean b) e = refl
read-no_object n (number x) e = refl
read-no_object n (string s) e = refl
read-no_object n (array ds) e = refl
read-no_object n (object ms) e = cc

-- ---- the fields, one after the other

pub fields-nil : (d : Data) → fields [] d ≡ Some no_docs
unfolding fields
fields-nil d = refl

pub fields-fit : (r : Row) (rs : List Row) (d : Data) (x : Doc) (xs : Docs) → field r d ≡ Some x → fields rs d ≡ Some xs → fields (r ∷ rs) d ≡ Some (doc x xs)
unfolding fields
fields-fit r rs d x xs e f = rw (e, f)

pub fields-first : (r : Row) (rs : List Row) (d : Data) → field r d ≡ None → fields (r ∷ rs) d ≡ None
unfolding fields
fields-first r rs d e = rw e

later_none : (x : Option Doc) → both x None ≡ None
later_none None = refl
later_none (Some d) = refl

pub fields-later : (r : Row) (rs : List Row) (d : Data) → fields rs d ≡ None → fields (r ∷ rs) d ≡ None
unfolding fields
fields-later r rs d e = rw e (later_none (field r d))

pub table_fits : (n : ObjectType) (d : Data) (ds : Docs) (e : Option Members) → is_some (as_object d) ≡ true → fields (table n) d ≡ Some ds → e ≡ extensions_at (has_extensions n) d
    → read (named n) d ≡ Some (table_doc n ds e)
table_fits n d ds e is all ext = read-named n d is ∙ ap (option_map (λ es. table_doc n es (extensions_at (has_extensions n) d))) all ∙ ap (λ x. Some (table_doc n ds x)) (sym ext)

table_refused_object : (n : ObjectType) (d : Data) → is_some (as_object d) ≡ true → fields (table n) d ≡ None → read (named n) d ≡ None
table_refused_object n d is all = read-named n d is ∙ ap (option_map (λ es. table_doc n es (extensions_at (has_extensions n) d))) all

table_refused_if : (b : Bool) (n : ObjectType) (d : Data) → is_some (as_object d) ≡ b → fields (table n) d ≡ None → read (named n) d ≡ None
table_refused_if true n d is all = table_refused_object n d is all
table_refused_if false n d is all = read-no_object n d is

pub table_refused : (n : ObjectType) (d : Data) → fields (table n) d ≡ None → read (named n) d ≡ None
table_refused n d all = table_refused_if _ n d refl all

pub no_extensions : (d : Data) → None ≡ extensions_at false d
no_extensions null = refl
no_extensions (boolean b) = refl
no_extensions (number n) = refl
no_extensions (string s) = refl
no_extensions (array ds) = refl
no_extensions (object ms) = refl

-- ---- answers

-- a fault that refuses one reading refuses another, which has no document where the first has none
refuses_too : (o p : Option Doc) → (o ≡ None → p ≡ None) → (e : ReadFault) → Refuses o e → Refuses p e
refuses_too o p h Memory r = tt
refuses_too o p h Fraction r = r
refuses_too o p h (Missing s) r = h r
refuses_too o p h (no_kind s) r = h r
refuses_too o p h (Word s) r = h r
refuses_too o p h Alternative r = h r
refuses_too o p h Text r = r

-- what `?` passes on is the fault that it was handed
pub passes_on : {T : Type 0} (r : Result T ReadFault) (e : ReadFault) (o p : Option Doc) → IsErrAnd r (λ f. f ≡ e) → Refuses o e → (o ≡ None → p ≡ None) → IfErr r (λ f. Refuses p f)
passes_on (Ok v) e o p is refused h = tt
passes_on (Err f) e o p is refused h = refuses_too o p h f (let Q : ReadFault → Type 0 = λ x. Refuses o x in subst Q (sym is) refused)
