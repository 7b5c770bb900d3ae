-- The parts of a table, read one after the other with one counter: what they come to together.
use Rattle.std.proofs.Common.{◌≡◌, ◌∙◌, ◌+◌, ◌≤◌, ◌++◌, ℕ, List, [], ◌∷◌, Bool, true, false, Option, option_map, sym, ap, is_some, arith, Result, Ok, Err}
use Rattle.std.specs.Result.{IsErrAnd}
use Rattle.serde_json.specs.Data.{Data, Members}
use Rattle.serde_json.specs.Find.{get, as_object}
use Rattle.utoipa_base.specs.Docs.{Doc, Docs, no_docs, doc, docs_append, docs_woven, list_doc, table_doc}
use Rattle.utoipa_base.specs.Extensions.{extensions_at}
use Rattle.utoipa_base.specs.Fields.{field, fields}
use Rattle.utoipa_base.specs.Kinds.{ObjectType, Row, named}
use Rattle.utoipa_base.specs.Reading.{read}
use Rattle.utoipa_base.specs.Reads.{Reads}
use Rattle.utoipa_base.specs.Rows.{part, rows_values, rows_woven}
use Rattle.utoipa_base.specs.Tables.{table, has_extensions}
use Rattle.utoipa_base.specs.Values.{values, values_of, schema_count, docs_schema_count}
use Rattle.utoipa_base.specs.declared.fault.ReadFault.{ReadFault}
use Rattle.utoipa_base.proofs.ByRows.{fields-nil, fields-fit, table_refused}
use Rattle.utoipa_base.proofs.Places.{docs_schema_count-none, docs_schema_count-cons, schema_count-list}
use Rattle.utoipa_base.proofs.RowLists.{list_as_table, passes_reads, rows_fewer, rows_fit}
use Rattle.utoipa_base.proofs.TableParts.{fields_of_part, no_fields_of_part, woven-fit, woven-refused}

-- the rows were read as the documents, and the counter has risen from `old` to `new`
abbrev pub PartRead : List Row → Data → Docs → ℕ → ℕ → Type 0
PartRead rows d ds old new = Reads {A = Docs} (part rows d) list_doc (Ok ds) old new (rows_values rows d)

-- ---- sums

pub values_join : (rs ss : List Row) (d : Data) → rows_values (rs ++ ss) d ≡ rows_values rs d + rows_values ss d
values_join [] ss d = omega arith
values_join (r ∷ rs) ss d = omega (arith, values_join rs ss d)

counts_join : (xs ys : Docs) → docs_schema_count (docs_append xs ys) ≡ docs_schema_count xs + docs_schema_count ys
counts_join no_docs ys = omega (arith, docs_schema_count-none)
counts_join (doc d xs) ys = omega (arith, docs_schema_count-cons d (docs_append xs ys), docs_schema_count-cons d xs, counts_join xs ys)

pub values_woven : (order : List Bool) (rs ss : List Row) (d : Data) → rows_values (rows_woven order rs ss) d ≡ rows_values rs d + rows_values ss d
values_woven [] rs ss d = values_join rs ss d
values_woven (true ∷ order) [] ss d = omega arith
values_woven (true ∷ order) (r ∷ rs) ss d = omega (arith, values_woven order rs ss d)
values_woven (false ∷ order) rs [] d = omega arith
values_woven (false ∷ order) rs (s ∷ ss) d = omega (arith, values_woven order rs ss d)

counts_woven : (order : List Bool) (xs ys : Docs) → docs_schema_count (docs_woven order xs ys) ≡ docs_schema_count xs + docs_schema_count ys
counts_woven [] xs ys = counts_join xs ys
counts_woven (true ∷ order) no_docs ys = omega (arith, docs_schema_count-none)
counts_woven (true ∷ order) (doc d xs) ys = omega (arith, docs_schema_count-cons d (docs_woven order xs ys), docs_schema_count-cons d xs, counts_woven order xs ys)
counts_woven (false ∷ order) xs no_docs = omega (arith, docs_schema_count-none)
counts_woven (false ∷ order) xs (doc d ys) = omega (arith, docs_schema_count-cons d (docs_woven order xs ys), docs_schema_count-cons d ys, counts_woven order xs ys)

list_counts_woven : (order : List Bool) (xs ys : Docs) → schema_count (list_doc (docs_woven order xs ys)) ≡ schema_count (list_doc xs) + schema_count (list_doc ys)
list_counts_woven order xs ys = omega (arith, schema_count-list (docs_woven order xs ys), schema_count-list xs, schema_count-list ys, counts_woven order xs ys)

-- ---- parts

-- no row
pub no_part : (d : Data) (n : ℕ) → PartRead [] d no_docs n n
no_part d n =
    record {
      ok = ap (option_map list_doc) (fields-nil d);
      err = tt;
      grows = omega arith;
      at_most = omega arith;
      at_least = λ below. omega (arith, schema_count-list no_docs, docs_schema_count-none);
    }

-- a row, and those after it
pub row_and_part : {A : Type 0} (f : A → Doc) (r : Row) (rs : List Row) (d : Data) (v : A) (ds : Docs) (old mid new : ℕ) → Reads {A = A} (field r d) f (Ok v) old mid (values_of (get r.name d)) → PartRead rs d ds mid new
    → PartRead (r ∷ rs) d (doc (f v) ds) old new
row_and_part f r rs d v ds old mid new one rest =
    record {
      ok = ap (option_map list_doc) (fields-fit r rs d (f v) ds one.ok (fields_of_part rs d ds rest.ok));
      err = tt;
      grows = omega (arith, one.grows, rest.grows);
      at_most = omega (arith, one.at_most, rest.at_most);
      at_least = λ below. omega (arith, one.at_least (omega (arith, rest.grows, below)), rest.at_least below, schema_count-list (doc (f v) ds), schema_count-list ds, docs_schema_count-cons (f v) ds);
    }

-- rows that were read after others, which they stand among
pub part_among : (order : List Bool) (rs ss : List Row) (d : Data) (xs ys : Docs) (old mid new : ℕ) → PartRead ss d ys old mid → PartRead rs d xs mid new → PartRead (rows_woven order rs ss) d (docs_woven order xs ys) old new
part_among order rs ss d xs ys old mid new one two =
    record {
      ok = ap (option_map list_doc) (woven-fit order rs ss d xs ys (fields_of_part rs d xs two.ok) (fields_of_part ss d ys one.ok));
      err = tt;
      grows = omega (arith, one.grows, two.grows);
      at_most = omega (arith, one.at_most, two.at_most, values_woven order rs ss d);
      at_least = λ below. omega (arith, one.at_least (omega (arith, two.grows, below)), two.at_least below, list_counts_woven order xs ys);
    }

-- fields that were read as one value are the documents of its parts
pub part_as : {A : Type 0} (f : A → Docs) (rs : List Row) (d : Data) (v : A) (old new : ℕ) → Reads {A = A} (part rs d) (λ w. list_doc (f w)) (Ok v) old new (rows_values rs d) → PartRead rs d (f v) old new
part_as f rs d v old new one = record { ok = one.ok; err = tt; grows = one.grows; at_most = one.at_most; at_least = one.at_least }

-- ---- tables

-- parts of a table have together no more values than their object
pub parts_fewer : (n : ObjectType) (order : List Bool) (rs ss : List Row) (d : Data) → rows_woven order rs ss ≡ table n → rows_values rs d + rows_values ss d ≤ values d
parts_fewer n order rs ss d is = omega (arith, rows_fewer n (rows_woven order rs ss) d is, values_woven order rs ss d)

-- a table whose rows were read
pub table_read : (n : ObjectType) (rs : List Row) (d : Data) (ds : Docs) (e : Option Members) (old new : ℕ) → rs ≡ table n → has_extensions n ≡ true → is_some (as_object d) ≡ true → e ≡ extensions_at true d → PartRead rs d ds old new
    → Reads {A = Docs} (read (named n) d) (λ xs. table_doc n xs e) (Ok ds) old new (values d)
table_read n rs d ds e old new is extended object extensions one =
    record {
      ok = rows_fit true n rs d ds e is extended object (fields_of_part rs d ds one.ok) extensions;
      err = tt;
      grows = one.grows;
      at_most = omega (arith, one.at_most, rows_fewer n rs d is);
      at_least = λ below. omega (arith, list_as_table n ds e old new one.at_least below);
    }

-- a part that is refused after the rows that it stands among were read
pub part_refused : {A T : Type 0} (f : A → Doc) (g : T → Doc) (n : ObjectType) (order : List Bool) (rs ss : List Row) (d : Data) (ys : Docs) (r : Result T ReadFault) (e : ReadFault) (old mid new : ℕ) → rows_woven order rs ss ≡ table n → PartRead ss d ys old mid
    → IsErrAnd r (λ x. x ≡ e) → Reads {A = A} (part rs d) f (Err e) mid new (rows_values rs d) → Reads (read (named n) d) g r old new (values d)
part_refused f g n order rs ss d ys r e old mid new is one passed refusal =
    passes_reads f g r e (part rs d) (read (named n) d) old mid new (rows_values rs d) (values d) passed refusal
    (λ h. table_refused n d (ap (λ x. fields x d) (sym is) ∙ woven-refused order rs ss d (no_fields_of_part rs d h)))
    one.grows
    (omega (arith, one.at_most, parts_fewer n order rs ss d is))
