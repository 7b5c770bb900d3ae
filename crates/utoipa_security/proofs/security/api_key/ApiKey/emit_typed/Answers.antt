use Rattle.std.proofs.Common.{refl}
use Rattle.utoipa_security.proofs.security.api_key.ApiKey.emit_typed.Goals as goal

pub returns : goal.returns
returns g c = rw c.place_and_value.ensures (c.emit_table.ensures _ refl)
