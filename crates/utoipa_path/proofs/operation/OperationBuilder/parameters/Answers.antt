use Rattle.std.proofs.lemmas.Result.{on_ok_weaker}
use Rattle.utoipa_path.specs.declared.types.Operation.{out-roll-Operation}
use Rattle.utoipa_path.proofs.Built.{built_where_done}
use Rattle.utoipa_path.proofs.operation.OperationBuilder.parameters.Goals as goal

pub returns : goal.returns
returns g c = built_where_done c.add_places_or_clear.result _ c.and.result _ c.and.ensures (on_ok_weaker c.add_places_or_clear.result (λ h. (c.add_places_or_clear.new.list, h, out-roll-Operation _)) c.add_places_or_clear.ensures)
