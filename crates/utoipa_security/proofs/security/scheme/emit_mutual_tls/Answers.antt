use Rattle.std.proofs.Common.{refl}
use Rattle.utoipa_security.proofs.security.scheme.emit_mutual_tls.Goals as goal

pub returns : goal.returns
returns g c = c.emit_table.ensures _ refl
