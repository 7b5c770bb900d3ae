use Rattle.std.proofs.Common.{refl, sym, ap, arith}
use Rattle.serde_json.specs.View.{view}
use Rattle.utoipa_base.specs.Kinds.{path_item_object}
use Rattle.utoipa_base.proofs.PartsRead.{part_as}
use Rattle.utoipa_base.proofs.RowLists.{passes_reads, reads_as}
use Rattle.utoipa_path.specs.Docs.{item_order, operations_of, operation_doc, path_item_doc, path_item_layer}
use Rattle.utoipa_path.specs.Parts.{operations_rows}
use Rattle.utoipa_path.specs.declared.types.PathItem.{PathItem, out-PathItem, out-roll-PathItem}
use Rattle.utoipa_path.proofs.assemble.assemble_path_item.Goals as goal

pub returns-in_err-base : goal.returns-in_err-base
returns-in_err-base c = λ start before.
    let operations = part_as (λ (i : PathItem). operations_of operation_doc (out-PathItem i)) operations_rows (view c.args.tree.now) c.args.item start _ before in
    let all = c.in_err-base.ensures path_item_object item_order operations_rows (λ i. operations_of operation_doc (out-PathItem i)) start refl refl operations in
    passes_reads _ path_item_doc _ _ _ _ start _ _ _ _ c.from_residual.ensures.1 all (λ h. h) (omega arith) (omega arith)

pub returns : goal.returns
returns c = λ start before.
    let operations = part_as (λ (i : PathItem). operations_of operation_doc (out-PathItem i)) operations_rows (view c.args.tree.now) c.args.item start _ before in
    let all = c.in_ok-base.ensures path_item_object item_order operations_rows (λ i. operations_of operation_doc (out-PathItem i)) start refl refl operations in
    reads_as _ path_item_doc _ _ _ _ _ _ (sym (ap (path_item_layer operation_doc) (out-roll-PathItem _))) all
