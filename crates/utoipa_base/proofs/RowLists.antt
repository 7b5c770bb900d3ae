-- An object is read by the list of its table's rows.
use Rattle.std.proofs.Common.{Bor, length, get_or, take, drop, Bool, false, ◌-◌, ◌≡◌, ℕ, ◌+◌, ◌<◌, ◌≤◌, List, [], ◌∷◌, Option, Some, None, option_map, refl, sym, ap, ◌∙◌, subst, Result, Ok, Err, is_some, true, arith}
use Rattle.serde_json.specs.Data.{Data, Members}
use Rattle.serde_json.specs.Find.{as_object}
use Rattle.utoipa_base.specs.Kinds.{ObjectType, named, Row}
use Rattle.utoipa_base.specs.Docs.{Doc, Docs, no_docs, doc, list_doc, table_doc}
use Rattle.utoipa_base.specs.Extensions.{extensions_at}
use Rattle.utoipa_base.specs.Fields.{field, fields}
use Rattle.utoipa_base.specs.Reading.{read}
use Rattle.utoipa_base.specs.Tables.{table, has_extensions}
use Rattle.utoipa_base.specs.Values.{values, names_values, schema_count}
use Rattle.std.proofs.Math.Seq.{take-length}
use Rattle.std.specs.Result.{IsErrAnd}
use Rattle.utoipa_base.specs.declared.fault.ReadFault.{ReadFault}
use Rattle.utoipa_base.proofs.Places.{schema_count-table, schema_count-list, docs_schema_count-none, docs_schema_count-cons}
use Rattle.utoipa_base.proofs.ByRows.{passes_on, fields-fit, fields-first, fields-later, fields-nil, table_refused, table_fits, no_extensions}
use Rattle.utoipa_base.proofs.TableParts.{fields_of_part, no_fields_of_part}
use Rattle.utoipa_base.proofs.Values.{table_values, names_of}
use Rattle.utoipa_base.specs.Reads.{Reads}
use Rattle.serde_json.specs.Find.{get}
use Rattle.utoipa_base.specs.Values.{values_of}
use Rattle.utoipa_base.specs.Rows.{part, rows_values, texts, rows_from}

pub first_refused : (r : Row) (rs : List Row) (d : Data) → field r d ≡ None → part (r ∷ rs) d ≡ None
first_refused r rs d h = ap (option_map list_doc) (fields-first r rs d h)

pub later_refused : (r : Row) (rs : List Row) (d : Data) → part rs d ≡ None → part (r ∷ rs) d ≡ None
later_refused r rs d h = ap (option_map list_doc) (fields-later r rs d (no_fields_of_part rs d h))

pub rows_refused : (n : ObjectType) (rs : List Row) (d : Data) → rs ≡ table n → part rs d ≡ None → read (named n) d ≡ None
rows_refused n rs d is h =
    let P : List Row → Type 0 = λ x. fields x d ≡ None in
    table_refused n d (subst P is (no_fields_of_part rs d h))

pub rows_fit : (kept : Bool) (n : ObjectType) (rs : List Row) (d : Data) (ds : Docs) (e : Option Members) → rs ≡ table n → has_extensions n ≡ kept → is_some (as_object d) ≡ true → fields rs d ≡ Some ds → e ≡ extensions_at kept d
    → read (named n) d ≡ Some (table_doc n ds e)
rows_fit kept n rs d ds e is extended object all ext =
    let P : List Row → Type 0 = λ x. fields x d ≡ Some ds in
    table_fits n d ds e object (subst P is all) (ext ∙ ap (λ b. extensions_at b d) (sym extended))

rows_values-names : (rs : List Row) (d : Data) → rows_values rs d ≡ names_values (names_of rs) d
rows_values-names [] d = refl
rows_values-names (r ∷ rs) d = omega (arith, rows_values-names rs d)

pub rows_fewer : (n : ObjectType) (rs : List Row) (d : Data) → rs ≡ table n → rows_values rs d ≤ values d
rows_fewer n rs d is =
    let same : names_values (names_of rs) d ≡ names_values (names_of (table n)) d = ap (λ x. names_values (names_of x) d) is in
    omega (arith, rows_values-names rs d, same, table_values n d)

pub ruleset by_row_list = (schema_count-table, fields-nil, docs_schema_count-none, docs_schema_count-cons)

-- what stands past the end of some names
abbrev pub nameless : Bor (List ℕ)
nameless = record { ref_ptr = (0, 0); now = [] }

-- the rows of some names are the first one's and the others'
pub rows_from-first : (first : List ℕ → Row) (rest : List (List ℕ) → List Row) (ns : List (Bor (List ℕ))) (n : ℕ) → length ns ≡ n + 1
    → rows_from first rest (texts ns) ≡ first (get_or ns 0 nameless).now ∷ rest (texts (take (length ns - 1) (drop 1 ns)))
rows_from-first first rest [] n some = absurd (omega arith)
rows_from-first first rest (m ∷ ns) n some =
    let k : length (m ∷ ns) - 1 ≡ length ns = omega arith in
    let e : take (length (m ∷ ns) - 1) ns ≡ ns = rw k (take-length ns) in
    ap (λ x. first m.now ∷ rest (texts x)) (sym e)

-- what `?` passes on, of a reading of less
pub passes_reads : {A T : Type 0} (f : A → Doc) (g : T → Doc) (r : Result T ReadFault) (e : ReadFault) (o p : Option Doc) (start old new m n : ℕ) → IsErrAnd r (λ x. x ≡ e) → Reads o f (Err e) old new m → (o ≡ None → p ≡ None)
    → start ≤ old → old + m ≤ start + n → Reads p g r start new n
passes_reads {A} {T} f g (Ok v) e o p start old new m n is read h before most = absurd is
passes_reads {A} {T} f g (Err x) e o p start old new m n is read h before most =
    record {
      ok = tt;
      err = passes_on {T = T} (Err x) e o p is read.err h;
      grows = omega (arith, read.grows);
      at_most = omega (arith, read.at_most);
      at_least = tt;
    }

-- what is read as one value is read as another of the same document
pub reads_as : {A B : Type 0} (f : A → Doc) (g : B → Doc) (v : A) (w : B) (o : Option Doc) (old new most : ℕ) → f v ≡ g w → Reads {A = A} o f (Ok v) old new most → Reads {A = B} o g (Ok w) old new most
reads_as f g v w o old new most same reads =
    record {
      ok = reads.ok ∙ ap Some same;
      err = tt;
      grows = reads.grows;
      at_most = reads.at_most;
      at_least = λ below. omega (arith, ap schema_count same, reads.at_least below);
    }

-- a row and the rows after it
pub both_read : {A B : Type 0} (f : A → Doc) (g : B → Docs) (r : Row) (rs : List Row) (d : Data) (a : A) (b : B) (old mid new : ℕ) → Reads {A = A} (field r d) f (Ok a) old mid (values_of (get r.name d))
    → Reads {A = B} (part rs d) (λ v. list_doc (g v)) (Ok b) mid new (rows_values rs d)
    → Reads {A = A × B} (part (r ∷ rs) d) (λ v. list_doc (doc (f v.0) (g v.1))) (Ok (a, b)) old new (rows_values (r ∷ rs) d)
both_read f g r rs d a b old mid new one rest =
    record {
      ok = ap (option_map list_doc) (fields-fit r rs d _ _ one.ok (fields_of_part rs d _ rest.ok));
      err = tt;
      grows = omega (arith, one.grows, rest.grows);
      at_most = omega (arith, one.at_most, rest.at_most);
      at_least = λ below. omega (arith, one.at_least (omega (arith, rest.grows, below)), rest.at_least below, schema_count-list (doc (f a) (g b)), schema_count-list (g b), docs_schema_count-cons (f a) (g b));
    }

-- no row
pub none_read : {A : Type 0} (d : Data) (a : A) (n : ℕ) → Reads {A = A} (part [] d) (λ v. list_doc no_docs) (Ok a) n n 0
none_read d a n =
    record {
      ok = ap (option_map list_doc) (fields-nil d);
      err = tt;
      grows = omega arith;
      at_most = omega arith;
      at_least = λ below. omega (arith, schema_count-list no_docs, docs_schema_count-none);
    }

-- a table has the schemas of its fields
pub list_as_table : (n : ObjectType) (ds : Docs) (e : Option Members) (old new : ℕ) → (new < 18446744073709551615 → old + schema_count (list_doc ds) ≤ new) → new < 18446744073709551615 → old + schema_count (table_doc n ds e) ≤ new
list_as_table n ds e old new h below = omega (arith, h below, schema_count-list ds, schema_count-table n ds e)

-- the rows of a table without extensions
pub table_alone : {A : Type 0} (docs : A → Docs) (n : ObjectType) (rs : List Row) (d : Data) (r : Result A ReadFault) (old new : ℕ) → rs ≡ table n → has_extensions n ≡ false → is_some (as_object d) ≡ true
    → Reads (part rs d) (λ v. list_doc (docs v)) r old new (rows_values rs d) → Reads (read (named n) d) (λ v. table_doc n (docs v) None) r old new (values d)
table_alone docs n rs d (Ok v) old new is alone object reads =
    record {
      ok = rows_fit false n rs d (docs v) None is alone object (fields_of_part rs d _ reads.ok) (no_extensions d);
      err = tt;
      grows = reads.grows;
      at_most = omega (arith, reads.at_most, rows_fewer n rs d is);
      at_least = list_as_table n (docs v) None old new reads.at_least;
    }
table_alone {A} docs n rs d (Err x) old new is alone object reads =
    record {
      ok = tt;
      err = passes_on {T = A} (Err x) x (part rs d) (read (named n) d) refl reads.err (rows_refused n rs d is);
      grows = reads.grows;
      at_most = omega (arith, reads.at_most, rows_fewer n rs d is);
      at_least = tt;
    }

-- ---- writing
