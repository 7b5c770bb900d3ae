use Rattle.std.proofs.Common.{◌≡◌, ◌∙◌, ◌+◌, ◌≤◌, ℕ, List, [], ◌∷◌, false, take, drop, String, Vec, Global, Ok, codes, refl, sym, subst, ap, arith}
use Rattle.serde_json.specs.Data.{Data}
use Rattle.serde_json.specs.View.{view}
use Rattle.utoipa_base.specs.Docs.{Docs, no_docs, doc, list_doc}
use Rattle.utoipa_base.specs.Fields.{field}
use Rattle.utoipa_base.specs.Kinds.{Row, named, operation_object}
use Rattle.utoipa_base.specs.Reading.{read}
use Rattle.utoipa_base.specs.Reads.{Reads}
use Rattle.utoipa_base.specs.Rows.{part, rows_values}
use Rattle.utoipa_base.specs.Tables.{table}
use Rattle.utoipa_base.specs.Values.{values, values_at}
use Rattle.utoipa_base.specs.Views.{text_of, option_of, list_of_docs}
use Rattle.utoipa_base.specs.declared.table.OptionalField.{OptionalField}
use Rattle.utoipa_base.proofs.ByRows.{fields-later, table_refused}
use Rattle.utoipa_base.proofs.PartsRead.{PartRead, part_as, parts_fewer, row_and_part}
use Rattle.utoipa_base.proofs.RowLists.{passes_reads, reads_as}
use Rattle.utoipa_base.proofs.TableParts.{join-later, no_fields_of_part}
use Rattle.utoipa_leaf.specs.Server.{server_doc}
use Rattle.utoipa_leaf.specs.declared.server.Server.{Server}
use Rattle.utoipa_security.specs.Requirement.{requirement_doc}
use Rattle.utoipa_security.specs.declared.security.requirement.SecurityRequirement.{SecurityRequirement}
use Rattle.utoipa_path.specs.Docs.{CallbacksOf, operation_doc, operation_layer, path_item_doc, callbacks_doc}
use Rattle.utoipa_path.specs.Folds.{operation_is}
use Rattle.utoipa_path.specs.declared.types.Operation.{out-roll-Operation}
use Rattle.utoipa_path.specs.declared.types.PathItem.{PathItem}
use Rattle.utoipa_path.proofs.PathParts.{callbacks_row}
use Rattle.utoipa_path.proofs.assemble.assemble_operation.Goals as goal

-- the rows of the table from `security` on, and those before them
abbrev last_rows : List Row
last_rows = drop 8 (table operation_object)

abbrev first_rows : List Row
first_rows = take 7 (drop 1 (table operation_object))

-- what was read of the last rows, with the callbacks beside it
abbrev Later : Type 0
Later = (OptionalField (Vec SecurityRequirement Global) × (OptionalField (Vec Server Global) × (OptionalField (String Global) × (OptionalField (Vec (String Global) Global) × Unit)))) × CallbacksOf PathItem

abbrev last_docs : Later → Docs
last_docs k =
    doc (option_of (list_of_docs requirement_doc) k.0.0.0)
    (doc (option_of (list_of_docs server_doc) k.0.1.0.0)
    (doc (option_of text_of k.0.1.1.0.0)
    (doc (option_of (list_of_docs text_of) k.0.1.1.1.0.0) no_docs)))

abbrev later_docs : Later → Docs
later_docs k = doc (callbacks_doc k.1) (last_docs k)

later_read : (d : Data) (later : Later) (callbacks : CallbacksOf PathItem) (start old new : ℕ) → later.1 ≡ callbacks
    → Reads {A = CallbacksOf PathItem} (field callbacks_row d) callbacks_doc (Ok callbacks) start old (values_at (codes "callbacks") d)
    → Reads {A = Later} (part last_rows d) (λ k. list_doc (last_docs k)) (Ok later) old new (rows_values last_rows d)
    → PartRead (callbacks_row ∷ last_rows) d (later_docs later) start new
later_read d later callbacks start old new same before last =
    let kept = subst (λ k. Reads {A = CallbacksOf PathItem} (field callbacks_row d) callbacks_doc (Ok k) start old (values_at (codes "callbacks") d)) (sym same) before in
    row_and_part callbacks_doc callbacks_row last_rows d later.1 _ start old new kept (part_as last_docs last_rows d later old new last)

pub returns-in_err-later : goal.returns-in_err-later
returns-in_err-later c = λ start before.
    let d = view c.args.tree.now in
    let fewer : rows_values first_rows d + (values_at (codes "callbacks") d + rows_values last_rows d) ≤ values d = parts_fewer operation_object (false ∷ []) first_rows (callbacks_row ∷ last_rows) d refl in
    passes_reads _ operation_doc _ _ _ (read (named operation_object) d) start _ _ _ (values d) c.from_residual.ensures.1 c.in_err-later.ensures.reads
    (λ h. table_refused operation_object d (fields-later callbacks_row _ d (join-later first_rows last_rows d (no_fields_of_part last_rows d h))))
    (omega (arith, before.grows))
    (omega (arith, before.at_most, fewer))

pub returns-in_err-rows : goal.returns-in_err-rows
returns-in_err-rows c = λ start before.
    let later = later_read (view c.args.tree.now) c.in_ok-later.later c.args.callbacks start _ _ c.in_ok-later.ensures.same before c.in_ok-later.ensures.reads in
    let all = c.in_err-rows.ensures operation_object (false ∷ []) (callbacks_row ∷ last_rows) later_docs start refl refl later in
    passes_reads _ operation_doc _ _ _ _ start _ _ _ _ c.from_residual-in_err-rows.ensures.1 all (λ h. h) (omega arith) (omega arith)

pub returns : goal.returns
returns c = λ start before.
    let later = later_read (view c.args.tree.now) c.in_ok-later.later c.args.callbacks start _ _ c.in_ok-later.ensures.same before c.in_ok-later.ensures.reads in
    let all = c.in_ok-rows.ensures operation_object (false ∷ []) (callbacks_row ∷ last_rows) later_docs start refl refl later in
    reads_as _ operation_doc _ _ _ _ _ _ (sym (operation_is _ ∙ ap (operation_layer path_item_doc) (out-roll-Operation _))) all
