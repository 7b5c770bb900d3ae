-- Written by tools/answers.py utoipa_operation_parts response Response
use Rattle.std.proofs.Common.{refl}
use Rattle.utoipa_operation_parts.proofs.response.ResponseEmit.emit.Goals as goal

pub returns : goal.returns
returns g c = c.emit_table.ensures _ refl
