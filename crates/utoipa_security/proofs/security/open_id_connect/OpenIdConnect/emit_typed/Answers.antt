use Rattle.std.proofs.Common.{refl}
use Rattle.utoipa_security.proofs.security.open_id_connect.OpenIdConnect.emit_typed.Goals as goal

pub returns : goal.returns
returns g c = c.emit_table.ensures _ refl
