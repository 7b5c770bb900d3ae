use Rattle.std.proofs.Common.{refl}
use Rattle.std.proofs.lemmas.Result.{on_ok_weaker}
use Rattle.utoipa_schema.proofs.Built.{built_where_done}
use Rattle.utoipa_schema.proofs.any_of.AnyOfBuilder.item.Goals as goal

pub returns : goal.returns
returns c = built_where_done c.push_one.result _ c.and.result _ c.and.ensures (on_ok_weaker c.push_one.result (λ h. (c.push_one.new.list, h, refl)) c.push_one.ensures.ok)
