-- Written by tools/answers.py utoipa_operation_parts request_body RequestBody
use Rattle.std.proofs.Common.{refl}
use Rattle.utoipa_operation_parts.proofs.request_body.RequestBodyEmit.emit.Goals as goal

pub returns : goal.returns
returns g c = c.emit_table.ensures _ refl
