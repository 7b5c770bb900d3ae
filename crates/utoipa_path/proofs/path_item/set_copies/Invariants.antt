use Rattle.utoipa_path.specs.Docs.{operation_doc}
use Rattle.utoipa_path.specs.Methods.{HoldAtMethods}
use Rattle.utoipa_path.specs.declared.types.PathItem.{out-PathItem}
use Rattle.utoipa_path.proofs.path_item.set_copies.Given as goal

abbrev pub invariant-loop-method : goal.invariant-loop-method
invariant-loop-method g l = HoldAtMethods l.yielded (operation_doc l.fn.operation) (out-PathItem l.initial.item) (out-PathItem l.item)
