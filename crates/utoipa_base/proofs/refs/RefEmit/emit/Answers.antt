use Rattle.std.proofs.Common.{refl}
use Rattle.utoipa_base.proofs.refs.RefEmit.emit.Goals as goal

pub returns : goal.returns
returns g c = c.emit_table.ensures _ refl
