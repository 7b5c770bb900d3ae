-- The members of path items that hold operations, and those of operations that hold callbacks.
use Rattle.std.proofs.Common.{◌≡◌, ◌+◌, ◌<◌, ◌++◌, ℕ, List, [], ◌∷◌, drop, Option, None, option_map, refl, ap, arith, codes, Ok, String, Global, BTreeMap}
use Rattle.serde_json.specs.Data.{Data}
use Rattle.utoipa_base.specs.Docs.{no_docs, doc, list_doc}
use Rattle.utoipa_base.specs.Fields.{field}
use Rattle.utoipa_base.specs.Kinds.{Row, named, ref_or, map_of, operation_object, optional, defaulted}
use Rattle.utoipa_base.specs.Reads.{Reads}
use Rattle.utoipa_base.specs.Rows.{part, rows_values}
use Rattle.utoipa_base.specs.Tables.{row, callback}
use Rattle.utoipa_base.specs.Values.{values, values_at}
use Rattle.utoipa_base.specs.Views.{option_of, map_of_docs}
use Rattle.utoipa_base.proofs.ByRows.{fields-first}
use Rattle.utoipa_base.proofs.PartsRead.{PartRead, no_part, row_and_part}
use Rattle.utoipa_base.proofs.TableParts.{join-later}
use Rattle.utoipa_base.proofs.Values.{names_fewer}
use Rattle.utoipa_path.specs.Docs.{operation_doc}
use Rattle.utoipa_path.specs.Parts.{operations_rows}
use Rattle.utoipa_path.specs.declared.types.Operation.{Operation}

-- ---- the parts of an operation

abbrev pub callbacks_row : Row
callbacks_row = row (codes "callbacks") defaulted (map_of (ref_or callback))

-- the callbacks of an operation have fewer values than it
pub callbacks_fewer : (d : Data) → values_at (codes "callbacks") d < values d
callbacks_fewer d =
    let h : values_at (codes "callbacks") d + 0 < values d = names_fewer (codes "callbacks" ∷ []) d refl in
    omega (arith, h)

-- those of the members that hold the operations of a path item
pub operations_values : (d : Data)
    → rows_values operations_rows d
    ≡ values_at (codes "additionalOperations") d
    + (values_at (codes "delete") d
    + (values_at (codes "get") d
    + (values_at (codes "head") d
    + (values_at (codes "options") d
    + (values_at (codes "patch") d
    + (values_at (codes "post") d
    + (values_at (codes "put") d
    + (values_at (codes "query") d
    + (values_at (codes "trace") d
    + 0)))))))))
operations_values d = refl

-- ---- the operations of a path item

abbrev pub method_row : List ℕ → Row
method_row name = row name optional (named operation_object)

abbrev pub additional_row : Row
additional_row = row (codes "additionalOperations") defaulted (map_of (named operation_object))

-- the operation of a method was read, and the counter has risen from `old` to `new`
abbrev pub MethodRead : List ℕ → Data → Option Operation → ℕ → ℕ → Type 0
MethodRead name d o old new = Reads {A = Option Operation} (field (method_row name) d) (option_of operation_doc) (Ok o) old new (values_at name d)

-- so were those of the other methods
abbrev pub AdditionalRead : Data → BTreeMap (String Global) Operation → ℕ → ℕ → Type 0
AdditionalRead d os old new = Reads {A = BTreeMap (String Global) Operation} (field additional_row d) (map_of_docs operation_doc) (Ok os) old new (values_at (codes "additionalOperations") d)

-- a row that is refused, among others
pub refused_among : (rs : List Row) (r : Row) (ss : List Row) (d : Data) → field r d ≡ None → part (rs ++ (r ∷ ss)) d ≡ None
refused_among rs r ss d h = ap (option_map list_doc) (join-later rs (r ∷ ss) d (fields-first r ss d h))

-- the operations of a path item, read one after the other
pub operations_read : (d : Data) (others : BTreeMap (String Global) Operation) (delete get head options patch post put query trace : Option Operation) (n0 n1 n2 n3 n4 n5 n6 n7 n8 n9 n10 : ℕ)
    → AdditionalRead d others n0 n1
    → MethodRead (codes "delete") d delete n1 n2
    → MethodRead (codes "get") d get n2 n3
    → MethodRead (codes "head") d head n3 n4
    → MethodRead (codes "options") d options n4 n5
    → MethodRead (codes "patch") d patch n5 n6
    → MethodRead (codes "post") d post n6 n7
    → MethodRead (codes "put") d put n7 n8
    → MethodRead (codes "query") d query n8 n9
    → MethodRead (codes "trace") d trace n9 n10
    → PartRead operations_rows d
    (doc (map_of_docs operation_doc others)
    (doc (option_of operation_doc delete)
    (doc (option_of operation_doc get)
    (doc (option_of operation_doc head)
    (doc (option_of operation_doc options)
    (doc (option_of operation_doc patch)
    (doc (option_of operation_doc post)
    (doc (option_of operation_doc put)
    (doc (option_of operation_doc query)
    (doc (option_of operation_doc trace) no_docs))))))))))
    n0 n10
operations_read d others delete get head options patch post put query trace n0 n1 n2 n3 n4 n5 n6 n7 n8 n9 n10 read_others read_delete read_get read_head read_options read_patch read_post read_put read_query last =
    (row_and_part (map_of_docs operation_doc) additional_row (drop 1 operations_rows) d others _ n0 n1 n10 read_others
    (row_and_part (option_of operation_doc) (method_row (codes "delete")) (drop 2 operations_rows) d delete _ n1 n2 n10 read_delete
    (row_and_part (option_of operation_doc) (method_row (codes "get")) (drop 3 operations_rows) d get _ n2 n3 n10 read_get
    (row_and_part (option_of operation_doc) (method_row (codes "head")) (drop 4 operations_rows) d head _ n3 n4 n10 read_head
    (row_and_part (option_of operation_doc) (method_row (codes "options")) (drop 5 operations_rows) d options _ n4 n5 n10 read_options
    (row_and_part (option_of operation_doc) (method_row (codes "patch")) (drop 6 operations_rows) d patch _ n5 n6 n10 read_patch
    (row_and_part (option_of operation_doc) (method_row (codes "post")) (drop 7 operations_rows) d post _ n6 n7 n10 read_post
    (row_and_part (option_of operation_doc) (method_row (codes "put")) (drop 8 operations_rows) d put _ n7 n8 n10 read_put
    (row_and_part (option_of operation_doc) (method_row (codes "query")) (drop 9 operations_rows) d query _ n8 n9 n10 read_query
    (row_and_part (option_of operation_doc) (method_row (codes "trace")) [] d trace no_docs n9 n10 n10 last (no_part d n10)))))))))))
