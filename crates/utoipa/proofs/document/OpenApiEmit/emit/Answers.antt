-- Written by tools/answers.py utoipa document OpenApi
use Rattle.std.proofs.Common.{refl}
use Rattle.utoipa.proofs.document.OpenApiEmit.emit.Goals as goal

pub returns : goal.returns
returns g c = c.emit_table.ensures _ refl
