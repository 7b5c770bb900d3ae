use Rattle.std.proofs.Common.{◌∙◌, ap}
use Rattle.utoipa_base.specs.Kinds.{path_item_object}
use Rattle.utoipa_base.proofs.TableParts.{same_woven, same_table}
use Rattle.utoipa_path.specs.Docs.{item_order, path_item_layer, operations_of, operation_doc}
use Rattle.utoipa_path.specs.declared.types.PathItem.{out-PathItem, out-roll-PathItem}
use Rattle.utoipa_path.proofs.copy.clone_path_item_with.Goals as goal

pub returns : goal.returns
returns c = λ operations.
    let copy = c.in_ok-base.ensures in
    let kept = ap (λ i. operations_of operation_doc (out-PathItem i)) copy.2 ∙ operations in
    ap (path_item_layer operation_doc) (out-roll-PathItem _)
    ∙ same_table path_item_object _ _ _ _ (same_woven item_order _ _ _ _ copy.0 kept) copy.1
