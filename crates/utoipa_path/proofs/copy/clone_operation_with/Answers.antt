use Rattle.std.proofs.Common.{◌∙◌, sym, ap}
use Rattle.utoipa_base.specs.Kinds.{operation_object}
use Rattle.utoipa_base.proofs.TableParts.{same_field, same_part, same_table}
use Rattle.utoipa_path.specs.Docs.{operation_layer, path_item_doc, callbacks_doc}
use Rattle.utoipa_path.specs.Folds.{operation_is}
use Rattle.utoipa_path.specs.declared.types.Operation.{out-roll-Operation}
use Rattle.utoipa_path.proofs.copy.clone_operation_with.Goals as goal

pub returns : goal.returns
returns c = λ callbacks.
    let copy = c.in_ok-rows.ensures in
    let kept = ap callbacks_doc copy.1 ∙ callbacks in
    operation_is _ ∙ ap (operation_layer path_item_doc) (out-roll-Operation _)
    ∙ same_table operation_object _ _ _ _ (same_field _ _ _ _ kept (same_part _ _ _ _ copy.0 copy.2)) copy.3
    ∙ sym (operation_is c.args.operation.now)
