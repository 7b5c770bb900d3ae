use Rattle.std.proofs.Common.{◌∙◌, sym}
use Rattle.utoipa_path.specs.Operations.{member_operation}
use Rattle.utoipa_path.specs.declared.types.PathItem.{out-PathItem}
use Rattle.utoipa_path.proofs.OperationMembers.{member_found, member_passed}
use Rattle.utoipa_path.proofs.operations.member_by_id.Goals as goal

pub returns-then-is_some : goal.returns-then-is_some
returns-then-is_some c = member_found (member_operation (out-PathItem c.args.item.now)) _ c.loop-method.method-index _ c.loop-method-test.true c.args.operation_id.now _ c.member_with_id-found.result c.loop-method.invariant c.member_with_id-found.ensures (sym c.is_some.ensures ∙ c.if-is_some.true)

pub loop-method-preserved : goal.loop-method-preserved
loop-method-preserved c = member_passed (member_operation (out-PathItem c.args.item.now)) _ c.loop-method.method-index _ c.loop-method-test.true c.args.operation_id.now _ c.member_with_id-found.result c.loop-method.invariant c.member_with_id-found.ensures (sym c.is_some.ensures ∙ c.if-is_some.false)
