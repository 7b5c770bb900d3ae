-- What readers come to that are given the outcomes of the places inside.
use Rattle.std.proofs.Common.{◌≡◌, ◌∙◌, ◌≤◌, ◌<◌, ◌+◌, ℕ, List, [], ◌∷◌, ◌++◌, length, map, true, false, Option, Some, None, option_map, Global, Vec, Bor, refl, sym, ap, subst, arith, Result, Ok, Err, IfOk, IfErr, string_bytes}
use Rattle.std.proofs.lemmas.List.{map-append}
use Rattle.std.specs.Result.{IsErrAnd}
use Rattle.serde_json.specs.Data.{Data, null, boolean, number, string, array, object, Items, no_items, item}
use Rattle.serde_json.specs.Find.{get, as_array, as_object}
use Rattle.serde_json.specs.View.{view, members_view}
use Rattle.serde_json.specs.declared.value.Value.{Value}
use Rattle.serde_json.proofs.Views.{Entry}
use Rattle.utoipa_base.specs.Docs.{Doc, own_doc, ref_doc, some_doc, list_doc, map_doc, docs_of, entries_of_list}
use Rattle.utoipa_base.specs.Faults.{Refuses, fitting}
use Rattle.utoipa_base.specs.Fields.{field}
use Rattle.utoipa_base.specs.Kinds.{Kind, schema, ref_or, list_of, map_of, required, optional, defaulted}
use Rattle.utoipa_base.specs.Reading.{read, reader, item_readers, is_null, both, both_entries}
use Rattle.utoipa_base.specs.Reads.{Reads}
use Rattle.utoipa_base.specs.Tables.{row}
use Rattle.utoipa_base.specs.Values.{schema_count, docs_schema_count}
use Rattle.utoipa_base.specs.Views.{option_of, list_of_docs}
use Rattle.utoipa_base.specs.declared.fault.ReadFault.{ReadFault}
use Rattle.utoipa_base.specs.declared.fault.ReadFault.TheVariants.{Memory, Fraction, Missing, Kind as no_kind, Word, Alternative, Text}
use Rattle.utoipa_base.proofs.ByKind.{items_read}
use Rattle.utoipa_base.proofs.ByRows.{passes_on}
use Rattle.utoipa_base.proofs.Maps.{entries_read, entries_read-nil, entries_read-cons, map_by_entries}
use Rattle.utoipa_base.proofs.Members.{member_at, field_required, field_defaulted, field_optional, field_null, field_absent}
use Rattle.utoipa_base.proofs.Places.{schema_count-none, schema_count-some, schema_count-list, docs_schema_count-none, own_places}
use Rattle.utoipa_base.proofs.Values.{docs_schema_count-last}
use Rattle.utoipa_schema.specs.Docs.{schema_doc}
use Rattle.utoipa_schema.specs.Outcomes.{count_of, last, own_doc_of, own_part, all_own, list_of_own, and_doc, all_docs, and_entry, all_entries, Fits}
use Rattle.utoipa_schema.specs.Places.{place_at, next_in_list, items_list, elements_of, next_entries, entries_of, elements, entries, alone}
use Rattle.utoipa_schema.specs.declared.types.Schema.{Schema}
use Rattle.utoipa_schema.proofs.Groups.{appended, appended-nil, appended-start, and_doc-appended}
use Rattle.utoipa_schema.proofs.Walks.{entries-object}

-- ---- refusals

pub fits_refused : {A : Type 0} (f : A → Doc) (o : Option Doc) (x : ReadFault) (n : ℕ) → Refuses o x → Fits {A = A} o f (Err x) n
fits_refused f o x n refusal = record { ok = tt; err = refusal; counted = tt }

-- a refusal that `?` passes on
pub passes_fits : {A T : Type 0} (f : A → Doc) (g : T → Doc) (r : Result T ReadFault) (e : ReadFault) (o p : Option Doc) (m n : ℕ) → IsErrAnd r (λ x. x ≡ e) → Fits {A = A} o f (Err e) m → (o ≡ None → p ≡ None) → Fits p g r n
passes_fits f g (Ok v) e o p m n is one none = absurd is
passes_fits {T = T} f g (Err x) e o p m n is one none = record { ok = tt; err = passes_on {T = T} (Err x) e o p is one.err none; counted = tt }

pub passes_refused : {T : Type 0} (g : T → Doc) (r : Result T ReadFault) (e : ReadFault) (p : Option Doc) (n : ℕ) → IsErrAnd r (λ x. x ≡ e) → Refuses p e → Fits p g r n
passes_refused g (Ok v) e p n is refusal = absurd is
passes_refused {T = T} g (Err x) e p n is refusal = record { ok = tt; err = passes_on {T = T} (Err x) e p p is refusal (λ h. h); counted = tt }

-- the same result of another document
pub fits_as_well : {A : Type 0} (f : A → Doc) (r : Result A ReadFault) (o p : Option Doc) (m n : ℕ) → Fits o f r m → o ≡ p → m ≤ n → Fits p f r n
fits_as_well f (Ok v) o p m n one same within = record { ok = sym same ∙ one.ok; err = tt; counted = omega (arith, one.counted, within) }
fits_as_well {A = A} f (Err x) o p m n one same within = record { ok = tt; err = subst (λ q. Refuses q x) same one.err; counted = tt }

pub no_length : {X : Type 0} (xs : List X) → length xs ≡ 0 → xs ≡ []
no_length [] e = refl
no_length (x ∷ xs) e = absurd (omega arith)

-- ---- alternatives

-- an alternative that fits has a value
pub fits_value : {A : Type 0} (f : A → Doc) (o : Option Doc) (r : Result A ReadFault) (v : A) (n : ℕ) → Fits o f r n → fitting r ≡ Ok (Some v) → (o ≡ Some (f v)) × (schema_count (f v) ≤ n)
fits_value f o (Ok w) v n one e =
    let same : w ≡ v = cc in (
      one.ok ∙ ap (λ x. Some (f x)) same,
      omega (arith, one.counted, ap (λ x. schema_count (f x)) same),
    )
fits_value f o (Err Memory) v n one e = cc
fits_value f o (Err Fraction) v n one e = cc
fits_value f o (Err (Missing s)) v n one e = cc
fits_value f o (Err (no_kind s)) v n one e = cc
fits_value f o (Err (Word s)) v n one e = cc
fits_value f o (Err Alternative) v n one e = cc
fits_value f o (Err Text) v n one e = cc

-- and one that does not has no document
pub fits_none : {A : Type 0} (f : A → Doc) (o : Option Doc) (r : Result A ReadFault) (n : ℕ) → Fits o f r n → fitting r ≡ Ok None → o ≡ None
fits_none f o (Ok w) n one e = cc
fits_none f o (Err Memory) n one e = cc
fits_none f o (Err Fraction) n one e = absurd one.err
fits_none f o (Err (Missing s)) n one e = one.err
fits_none f o (Err (no_kind s)) n one e = one.err
fits_none f o (Err (Word s)) n one e = one.err
fits_none f o (Err Alternative) n one e = one.err
fits_none f o (Err Text) n one e = absurd one.err

-- ---- members

-- a required member fits as what stands at its name
pub required_fits : {A : Type 0} (f : A → Doc) (name : List ℕ) (k : Kind) (d : Data) (o : Option (Bor Value)) (v : Bor Value) (r : Result A ReadFault) (n : ℕ) → option_map (λ w. view w.now) o ≡ get name d → o ≡ Some v
    → Fits (read k (view v.now)) f r n → Fits (field (row name required k) d) f r n
required_fits f name k d o v r n found is one = rw (field_required name k d (view v.now) (member_at name d o v found is)) one

-- so does a defaulted one
pub defaulted_fits : {A : Type 0} (f : A → Doc) (name : List ℕ) (k : Kind) (d : Data) (o : Option (Bor Value)) (v : Bor Value) (r : Result A ReadFault) (n : ℕ) → option_map (λ w. view w.now) o ≡ get name d → o ≡ Some v
    → Fits (read k (view v.now)) f r n → Fits (field (row name defaulted k) d) f r n
defaulted_fits f name k d o v r n found is one = rw (field_defaulted name k d (view v.now) (member_at name d o v found is)) one

-- an optional member that is not null
pub optional_fits : {A B : Type 0} (f : A → Doc) (g : B → Doc) (name : List ℕ) (k : Kind) (d : Data) (o : Option (Bor Value)) (v : Bor Value) (x : A) (y : B) (n : ℕ) → option_map (λ w. view w.now) o ≡ get name d → o ≡ Some v → is_null (view v.now) ≡ false
    → g y ≡ f x → Fits {A = A} (read k (view v.now)) f (Ok x) n → Fits {A = Option B} (field (row name optional k) d) (option_of g) (Ok (Some y)) n
optional_fits f g name k d o v x y n found is full held one =
    record {
      ok = field_optional name k d (view v.now) (member_at name d o v found is) full ∙ ap (option_map some_doc) one.ok ∙ ap (λ z. Some (some_doc z)) (sym held);
      err = tt;
      counted = omega (arith, one.counted, ap schema_count held, schema_count-some (g y));
    }

-- one that is refused
pub optional_fails : {A B : Type 0} (f : A → Doc) (g : B → Doc) (name : List ℕ) (k : Kind) (d : Data) (o : Option (Bor Value)) (v : Bor Value) (r : Result (Option B) ReadFault) (e : ReadFault) (n : ℕ) → option_map (λ w. view w.now) o ≡ get name d
    → o ≡ Some v → is_null (view v.now) ≡ false → IsErrAnd r (λ x. x ≡ e) → Fits {A = A} (read k (view v.now)) f (Err e) n → Fits (field (row name optional k) d) (option_of g) r n
optional_fails f g name k d o v r e n found is full passed one =
    passes_fits f (option_of g) r e _ _ n n passed one (λ h. field_optional name k d (view v.now) (member_at name d o v found is) full ∙ ap (option_map some_doc) h)

-- one that is null
pub null_fits : {A : Type 0} (f : A → Doc) (name : List ℕ) (k : Kind) (d : Data) (o : Option (Bor Value)) (v : Bor Value) (n : ℕ) → option_map (λ w. view w.now) o ≡ get name d → o ≡ Some v → is_null (view v.now) ≡ true
    → Fits {A = Option A} (field (row name optional k) d) (option_of f) (Ok None) n
null_fits f name k d o v n found is none = record { ok = field_null name k d (view v.now) (member_at name d o v found is) none; err = tt; counted = omega (arith, schema_count-none) }

-- and one that is absent
pub absent_fits : {A : Type 0} (f : A → Doc) (name : List ℕ) (k : Kind) (d : Data) (n : ℕ) → get name d ≡ None → Fits {A = Option A} (field (row name optional k) d) (option_of f) (Ok None) n
absent_fits f name k d n gone = record { ok = field_absent name optional k d gone; err = tt; counted = omega (arith, schema_count-none) }

-- ---- with the counter

-- the roots of a walk were read, and what they came to was put together
pub reads_from : {A : Type 0} (f : A → Doc) (r : Result A ReadFault) (o : Option Doc) (n old new m most : ℕ) → Fits o f r n → old ≤ new → new ≤ old + m → m ≤ most → (new < 18446744073709551615 → old + n ≤ new) → Reads o f r old new most
reads_from f (Ok v) o n old new m most one grows at_most within at_least =
    record { ok = one.ok; err = tt; grows = grows; at_most = omega (arith, at_most, within); at_least = λ below. omega (arith, one.counted, at_least below) }
reads_from f (Err x) o n old new m most one grows at_most within at_least =
    record { ok = tt; err = one.err; grows = grows; at_most = omega (arith, at_most, within); at_least = tt }

-- ---- tables

-- a table with one member that holds schemas
pub table_fits_as : {A B : Type 0} (f : A → Doc) (g : B → Doc) (v : A) (r : Result B ReadFault) (o p : Option Doc) (n : ℕ) → Fits {A = A} o f (Ok v) n → IfOk r (λ b. o ≡ Some (f v) → p ≡ Some (g b)) → IfErr r (Refuses p)
    → IfOk r (λ b. schema_count (g b) ≡ schema_count (f v)) → Fits p g r n
table_fits_as f g v (Ok b) o p n one fits refusal counts = record { ok = fits one.ok; err = tt; counted = omega (arith, one.counted, counts) }
table_fits_as f g v (Err x) o p n one fits refusal counts = record { ok = tt; err = refusal; counted = tt }

-- ---- one place

-- what is no place reads as nothing
pub alone_read : (d : Data) → last (alone true d) ≡ read (ref_or schema) d
unfolding reader
alone_read null = refl
alone_read (boolean b) = refl
alone_read (number n) = refl
alone_read (string s) = refl
alone_read (array ds) = refl
alone_read (object ms) = refl

pub own_back : (o : Option Doc) → own_part (option_map own_doc o) ≡ o
own_back None = refl
own_back (Some d) = refl

pub alone_own : (d : Data) → own_part (last (alone false d)) ≡ read schema d
unfolding reader
alone_own null = refl
alone_own (boolean b) = refl
alone_own (number n) = own_back (read schema (number n))
alone_own (string s) = own_back (read schema (string s))
alone_own (array ds) = own_back (read schema (array ds))
alone_own (object ms) = own_back (read schema (object ms))

count_own_of : (d : Doc) → count_of (own_doc_of d) ≤ schema_count d
count_own_of (own_doc d) = omega (arith, own_places d)
count_own_of d = omega arith

pub count_own : (o : Option Doc) → count_of (own_part o) ≤ count_of o
count_own None = omega arith
count_own (Some d) = count_own_of d

-- ---- a list

both_and : (o : Option Doc) (w : Option (List Doc)) → both o (option_map docs_of w) ≡ option_map docs_of (and_doc o w)
both_and None w = refl
both_and (Some d) None = refl
both_and (Some d) (Some ds) = refl

items_all : (ds : Items) → items_read (ref_or schema) ds ≡ option_map docs_of (all_docs (map (place_at true next_in_list) (items_list ds)))
unfolding item_readers
items_all no_items = refl
items_all (item d ds) = ap (both (read (ref_or schema) d)) (items_all ds) ∙ both_and (read (ref_or schema) d) (all_docs (map (place_at true next_in_list) (items_list ds)))

elements_all : (ds : Items) → items_read (ref_or schema) ds ≡ option_map docs_of (all_docs (elements_of true ds))
unfolding item_readers
elements_all no_items = refl
elements_all (item d ds) = ap (both (read (ref_or schema) d)) (items_all ds) ∙ both_and (read (ref_or schema) d) (all_docs (map (place_at true next_in_list) (items_list ds)))

-- the elements of a list, read as places
pub list_all : (d : Data) (ds : Items) → Some ds ≡ as_array d → read (list_of (ref_or schema)) d ≡ option_map list_doc (option_map docs_of (all_docs (elements true d)))
unfolding reader
list_all null ds e = cc
list_all (boolean b) ds e = cc
list_all (number n) ds e = cc
list_all (string s) ds e = cc
list_all (array es) ds e = ap (option_map list_doc) (elements_all es)
list_all (object ms) ds e = cc

-- the schemas that places hold, if each holds one
abbrev pub owned : Option (List Doc) → Option (List Doc)
owned None = None
owned (Some ds) = all_own ds

both_owned : (o : Option Doc) (w : Option (List Doc)) → both o (option_map docs_of (owned w)) ≡ option_map docs_of (owned (and_doc (option_map own_doc o) w))
both_owned None w = refl
both_owned (Some d) None = refl
both_owned (Some d) (Some ds) = both_and (Some d) (all_own ds)

items_own : (ds : Items) → items_read schema ds ≡ option_map docs_of (owned (all_docs (map (place_at false next_in_list) (items_list ds))))
unfolding item_readers
items_own no_items = refl
items_own (item d ds) = ap (both (read schema d)) (items_own ds) ∙ both_owned (read schema d) (all_docs (map (place_at false next_in_list) (items_list ds)))

elements_own : (ds : Items) → items_read schema ds ≡ option_map docs_of (owned (all_docs (elements_of false ds)))
unfolding item_readers
elements_own no_items = refl
elements_own (item d ds) = ap (both (read schema d)) (items_own ds) ∙ both_owned (read schema d) (all_docs (map (place_at false next_in_list) (items_list ds)))

-- the elements of a list, read as schemas
pub list_own : (d : Data) (ds : Items) → Some ds ≡ as_array d → read (list_of schema) d ≡ option_map list_doc (option_map docs_of (owned (all_docs (elements false d))))
unfolding reader
list_own null ds e = cc
list_own (boolean b) ds e = cc
list_own (number n) ds e = cc
list_own (string s) ds e = cc
list_own (array es) ds e = ap (option_map list_doc) (elements_own es)
list_own (object ms) ds e = cc

list_of_docs_as : (w : Option (List Doc)) → option_map list_doc (option_map docs_of w) ≡ option_map (λ l. list_doc (docs_of l)) w
list_of_docs_as None = refl
list_of_docs_as (Some ds) = refl

pub list_of_own-as : (ds : List Doc) → option_map list_doc (option_map docs_of (all_own ds)) ≡ list_of_own ds
list_of_own-as ds = list_of_docs_as (all_own ds)

docs_count-cons : (d : Doc) (ds : List Doc) → docs_schema_count (docs_of (d ∷ ds)) ≡ schema_count d + docs_schema_count (docs_of ds)
unfolding docs_schema_count
docs_count-cons d ds = refl

-- the places before `rest` have come to `ys`
pub record OwnFilled (all rest : List Doc) (ys : List Schema) : Type 0 where
  pub fits : all_own all ≡ appended (Some (map schema_doc ys)) (all_own rest)
  pub counted : docs_schema_count (docs_of (map schema_doc ys)) + docs_schema_count (docs_of rest) ≤ docs_schema_count (docs_of all)

pub own_begun : (all : List Doc) (ys : List Schema) → ys ≡ [] → OwnFilled all all ys
own_begun all ys none =
    let counted : docs_schema_count (docs_of (map schema_doc ys)) ≡ 0 = ap (λ zs. docs_schema_count (docs_of (map schema_doc zs))) none ∙ docs_schema_count-none in
    record { fits = sym (ap (λ zs. appended (Some (map schema_doc zs)) (all_own all)) none ∙ appended-start (all_own all)); counted = omega (arith, counted) }

pub own_step : (all rest more : List Doc) (ys zs : List Schema) (s : Schema) → OwnFilled all rest ys → rest ≡ own_doc (schema_doc s) ∷ more → zs ≡ ys ++ s ∷ [] → OwnFilled all more zs
own_step all rest more ys zs s so_far here put =
    let mapped : map schema_doc zs ≡ map schema_doc ys ++ schema_doc s ∷ [] = ap (map schema_doc) put ∙ map-append schema_doc ys (s ∷ []) in
    let counted : docs_schema_count (docs_of (map schema_doc zs)) ≡ docs_schema_count (docs_of (map schema_doc ys)) + schema_count (schema_doc s) = ap (λ es. docs_schema_count (docs_of es)) mapped ∙ docs_schema_count-last (map schema_doc ys) (schema_doc s) in
    let left : docs_schema_count (docs_of rest) ≡ schema_count (own_doc (schema_doc s)) + docs_schema_count (docs_of more) = ap (λ ds. docs_schema_count (docs_of ds)) here ∙ docs_count-cons (own_doc (schema_doc s)) more in
    record {
      fits = so_far.fits ∙ ap (λ r. appended (Some (map schema_doc ys)) (all_own r)) here ∙ sym (and_doc-appended (Some (map schema_doc ys)) (Some (schema_doc s)) (all_own more)) ∙ ap (λ es. appended (Some es) (all_own more)) (sym mapped);
      counted = omega (arith, so_far.counted, counted, left, own_places (schema_doc s));
    }

pub own_stop : (all rest more : List Doc) (ys : List Schema) (k : Kind) (d : Doc) → OwnFilled all rest ys → rest ≡ ref_doc k d ∷ more → list_of_own all ≡ None
own_stop all rest more ys k d so_far here = ap (option_map (λ l. list_doc (docs_of l))) (so_far.fits ∙ ap (λ r. appended (Some (map schema_doc ys)) (all_own r)) here)

pub own_end : (all rest : List Doc) (v : Vec Schema Global) → OwnFilled all rest v.items → rest ≡ [] → Fits {A = Vec Schema Global} (list_of_own all) (list_of_docs schema_doc) (Ok v) (docs_schema_count (docs_of all))
own_end all rest v so_far here =
    record {
      ok = ap (option_map (λ l. list_doc (docs_of l))) (so_far.fits ∙ ap (λ r. appended (Some (map schema_doc v.items)) (all_own r)) here ∙ appended-nil (Some (map schema_doc v.items)));
      err = tt;
      counted = omega (arith, so_far.counted, schema_count-list (docs_of (map schema_doc v.items)));
    }

-- ---- a map

both_entries_and : (name : List ℕ) (o : Option Doc) (w : Option (List (List ℕ × Doc))) → both_entries name o (option_map entries_of_list w) ≡ option_map entries_of_list (and_entry name o w)
both_entries_and name None w = refl
both_entries_and name (Some d) None = refl
both_entries_and name (Some d) (Some es) = refl

next_all : (es : List Entry) → entries_read (ref_or schema) es ≡ option_map entries_of_list (all_entries (next_entries true (members_view es)))
next_all [] = entries_read-nil (ref_or schema)
next_all (e ∷ es) =
    entries_read-cons (ref_or schema) e es ∙ ap (both_entries (string_bytes e.0) (read (ref_or schema) (view e.1))) (next_all es)
    ∙ both_entries_and (string_bytes e.0) (read (ref_or schema) (view e.1)) (all_entries (next_entries true (members_view es)))

entries_all : (es : List Entry) → entries_read (ref_or schema) es ≡ option_map entries_of_list (all_entries (entries_of true (members_view es)))
entries_all [] = entries_read-nil (ref_or schema)
entries_all (e ∷ es) =
    entries_read-cons (ref_or schema) e es ∙ ap (both_entries (string_bytes e.0) (read (ref_or schema) (view e.1))) (next_all es)
    ∙ both_entries_and (string_bytes e.0) (read (ref_or schema) (view e.1)) (all_entries (next_entries true (members_view es)))

-- the values of an object, read as places
pub map_all : (d : Data) (es : List Entry) → Some (members_view es) ≡ as_object d → read (map_of (ref_or schema)) d ≡ option_map map_doc (option_map entries_of_list (all_entries (entries true d)))
map_all d es is = map_by_entries (ref_or schema) d es _ is (entries_all es) ∙ ap (λ ps. option_map map_doc (option_map entries_of_list (all_entries ps))) (sym (entries-object true d (members_view es) is))
