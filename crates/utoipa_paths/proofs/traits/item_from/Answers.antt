use Rattle.std.proofs.Common.{◌∙◌, subst}
use Rattle.std.proofs.lemmas.Result.{IfOk-weaker}
use Rattle.utoipa_path.specs.Docs.{operation_doc}
use Rattle.utoipa_path.specs.Methods.{HoldAtMethods}
use Rattle.utoipa_path.specs.declared.types.PathItem.{out-PathItem}
use Rattle.utoipa_paths.proofs.OperationAdded.{vector_drained, new_in_order}
use Rattle.utoipa_paths.proofs.traits.item_from.Goals as goal

pub returns-clause-item : goal.returns-clause-item
returns-clause-item g c =
    let methods = c.in_ok-methods.methods in
    let operation = operation_doc c.in_ok-operation.operation in
    IfOk-weaker c.from_http_methods.result _ _
    (λ item made.
    let given = vector_drained made.2.0 methods.items made.0 made.2.1.0 (made.2.1.1 ∙ methods.ok.0) made.2.2 in (
      operation,
      made.1,
      c.in_ok-operation.ensures,
      made.3,
      subst (λ ms. HoldAtMethods ms operation made.1 (out-PathItem item)) (given ∙ c.in_ok-methods.ensures) made.4,
    ))
    c.from_http_methods.ensures

pub returns-clause-ordered : goal.returns-clause-ordered
returns-clause-ordered g c = IfOk-weaker c.from_http_methods.result _ _ (λ item made. new_in_order made.1 item made.3 made.4.rest) c.from_http_methods.ensures
