-- Written by tools/answers.py utoipa_schema_parts discriminator Discriminator
use Rattle.std.proofs.Common.{refl}
use Rattle.utoipa_schema_parts.proofs.discriminator.DiscriminatorEmit.emit.Goals as goal

pub returns : goal.returns
returns g c = c.emit_table.ensures _ refl
