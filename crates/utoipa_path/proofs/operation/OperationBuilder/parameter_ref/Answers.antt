use Rattle.std.proofs.lemmas.Result.{on_ok_weaker}
use Rattle.utoipa_path.specs.declared.types.Operation.{out-roll-Operation}
use Rattle.utoipa_path.proofs.Built.{built_where_done}
use Rattle.utoipa_path.proofs.operation.OperationBuilder.parameter_ref.Goals as goal

pub returns : goal.returns
returns c = built_where_done c.add_one.result _ c.and.result _ c.and.ensures (on_ok_weaker c.add_one.result (λ h. (c.add_one.new.list, h, out-roll-Operation _)) c.add_one.ensures)
