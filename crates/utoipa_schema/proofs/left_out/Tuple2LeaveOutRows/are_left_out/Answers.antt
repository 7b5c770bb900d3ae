use Rattle.std.proofs.Common.{◌∙◌}
use Rattle.utoipa_schema.proofs.LeftOut.{none_of_rows}
use Rattle.utoipa_schema.proofs.left_out.Tuple2LeaveOutRows.are_left_out.Goals as goal

pub returns : goal.returns
returns g c = λ all names. none_of_rows g.H.EmitRow.line g.R.EmitRows.rows _ _ names (λ name. c.is_left_out.ensures name ∙ c.if-not-is_left_out.false) (c.are_left_out.ensures all)
