-- Written by tools/answers.py utoipa_security security/http Http
use Rattle.std.proofs.Common.{refl}
use Rattle.utoipa_security.proofs.security.http.HttpEmit.emit.Goals as goal

pub returns : goal.returns
returns g c = c.emit_table.ensures _ refl
