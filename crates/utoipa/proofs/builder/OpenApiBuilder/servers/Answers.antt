use Rattle.std.proofs.Common.{refl}
use Rattle.utoipa_path.proofs.Built.{built_where_set}
use Rattle.utoipa.proofs.builder.OpenApiBuilder.servers.Goals as goal

pub returns : goal.returns
returns g c = built_where_set c.list_if_any-servers.result _ c.set.new.field c.set.result _ c.and.result _ c.list_if_any-servers.ensures c.set.ensures.ok c.and.ensures (λ h. (c.set.new.field, h, refl))
