-- Written by tools/answers.py utoipa_security security/oauth2 OAuth2
use Rattle.std.proofs.Common.{refl}
use Rattle.utoipa_security.proofs.security.oauth2.OAuth2Emit.emit.Goals as goal

pub returns : goal.returns
returns g c = c.emit_table.ensures _ refl
