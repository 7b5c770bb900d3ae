-- Written by tools/answers.py utoipa_security security/api_key ApiKeyValue
use Rattle.std.proofs.Common.{refl}
use Rattle.utoipa_security.proofs.security.api_key.ApiKeyValueEmit.emit.Goals as goal

pub returns : goal.returns
returns g c = c.emit_table.ensures _ refl
