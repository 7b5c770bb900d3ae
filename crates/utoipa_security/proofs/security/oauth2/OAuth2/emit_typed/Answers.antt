use Rattle.std.proofs.Common.{refl}
use Rattle.utoipa_security.proofs.security.oauth2.OAuth2.emit_typed.Goals as goal

pub returns : goal.returns
returns g c = c.emit_table.ensures _ refl
