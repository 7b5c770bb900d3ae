use Rattle.utoipa_path.proofs.ByMethod.{hold_none, hold_one}
use Rattle.utoipa_path.proofs.path_item.set_copies.Goals as goal

pub loop-method-init : goal.loop-method-init
loop-method-init g c = hold_none _ _

pub loop-method-preserved : goal.loop-method-preserved
loop-method-preserved g c = hold_one _ _ _ _ _ c.in-Some.method c.in_ok-copy.copy c.loop-method.invariant c.in_ok-copy.ensures c.set_operation.ensures
