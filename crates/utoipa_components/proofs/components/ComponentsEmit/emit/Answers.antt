-- Written by tools/answers.py utoipa_components components Components
use Rattle.std.proofs.Common.{refl}
use Rattle.utoipa_components.proofs.components.ComponentsEmit.emit.Goals as goal

pub returns : goal.returns
returns g c = c.emit_table.ensures _ refl
