use Rattle.utoipa_media.specs.declared.types.Content.{out-roll-Content}
use Rattle.std.proofs.lemmas.Result.{on_ok_weaker}
use Rattle.utoipa_media.proofs.Built.{built_where_done}
use Rattle.utoipa_media.proofs.content.ContentBuilder.prefix_encoding.Goals as goal

pub returns : goal.returns
returns g c = built_where_done c.set_list.result _ c.and.result _ c.and.ensures (on_ok_weaker c.set_list.result (λ h. (c.set_list.new.list, h, out-roll-Content _)) c.set_list.ensures.ok)
