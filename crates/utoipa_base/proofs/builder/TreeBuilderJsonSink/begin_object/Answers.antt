use Rattle.utoipa_base.proofs.Building.{object_begun}
use Rattle.utoipa_base.proofs.builder.TreeBuilderJsonSink.begin_object.Goals as goal

pub returns : goal.returns
returns c = object_begun _ _ c.new.result _ c.new.ensures.empty c.in_ok-push.ensures.items
