-- Written by tools/answers.py utoipa_security security/open_id_connect OpenIdConnect
use Rattle.std.proofs.Common.{refl}
use Rattle.utoipa_security.proofs.security.open_id_connect.OpenIdConnectEmit.emit.Goals as goal

pub returns : goal.returns
returns g c = c.emit_table.ensures _ refl
