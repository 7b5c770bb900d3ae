use Rattle.utoipa_schema.proofs.LeftOut.{no_rows}
use Rattle.utoipa_schema.proofs.left_out.UnitLeaveOutRows.are_left_out.Goals as goal

pub returns : goal.returns
returns c = λ all names. no_rows _
