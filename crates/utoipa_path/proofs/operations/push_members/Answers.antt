use Rattle.utoipa_path.specs.Operations.{member_operation}
use Rattle.utoipa_path.specs.declared.types.PathItem.{out-PathItem}
use Rattle.utoipa_path.proofs.OperationMembers.{member_listed}
use Rattle.utoipa_path.proofs.operations.push_members.Goals as goal

pub loop-method-preserved : goal.loop-method-preserved
loop-method-preserved c = member_listed (member_operation (out-PathItem c.args.item.now)) _ c.loop-method.method-index _ c.loop-method-test.true _ _ _ c.loop-method.invariant c.in_ok-push_member.ensures
