-- Written by tools/answers.py utoipa_leaf info Contact
use Rattle.std.proofs.Common.{refl}
use Rattle.utoipa_leaf.proofs.info.ContactEmit.emit.Goals as goal

pub returns : goal.returns
returns g c = c.emit_table.ensures _ refl
