-- Written by tools/answers.py utoipa_leaf info Info
use Rattle.std.proofs.Common.{refl}
use Rattle.utoipa_leaf.proofs.info.InfoEmit.emit.Goals as goal

pub returns : goal.returns
returns g c = c.emit_table.ensures _ refl
