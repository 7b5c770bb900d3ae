use Rattle.std.proofs.Common.{refl}
use Rattle.utoipa_schema.proofs.Built.{built_where_set}
use Rattle.utoipa_schema.proofs.object.ObjectBuilder.property_names.Goals as goal

pub returns : goal.returns
returns c = built_where_set c.boxed_if_any-property_names.result _ c.set.new.field c.set.result _ c.and.result _ c.boxed_if_any-property_names.ensures c.set.ensures.ok c.and.ensures (λ h. (c.set.new.field, h, refl))
