use Rattle.utoipa_base.proofs.Building.{array_begun}
use Rattle.utoipa_base.proofs.builder.TreeBuilderJsonSink.begin_array.Goals as goal

pub returns : goal.returns
returns c = array_begun _ _ c.new.result _ c.new.ensures.items c.in_ok-push.ensures.items
