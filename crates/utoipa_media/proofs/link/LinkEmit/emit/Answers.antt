-- Written by tools/answers.py utoipa_media link Link
use Rattle.std.proofs.Common.{refl}
use Rattle.utoipa_media.proofs.link.LinkEmit.emit.Goals as goal

pub returns : goal.returns
returns g c = c.emit_table.ensures _ refl
