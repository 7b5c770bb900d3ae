-- Written by tools/answers.py utoipa_security security/flow DeviceAuthorization
use Rattle.std.proofs.Common.{refl}
use Rattle.utoipa_security.proofs.security.flow.DeviceAuthorizationEmit.emit.Goals as goal

pub returns : goal.returns
returns g c = c.emit_table.ensures _ refl
