use Rattle.utoipa_schema.proofs.LeftOut.{absent_is_none}
use Rattle.utoipa_schema.proofs.left_out.OptionalValueLeaveOut.is_left_out.Goals as goal

pub returns : goal.returns
returns g c = λ name. absent_is_none _ _ _ c.is_none.ensures
