use Rattle.std.proofs.Common.{ap, ◌∙◌, ◌++◌, ◌∷◌, []}
use Rattle.std.proofs.lemmas.Result.{on_ok_weaker}
use Rattle.utoipa_base.proofs.Building.{object_ended}
use Rattle.utoipa_base.proofs.builder.TreeBuilderJsonSink.end_object.Goals as goal

pub returns : goal.returns
returns c = on_ok_weaker c.place.result (object_ended _ c.pop.new.self.items c.in-Some-Object.members _ _ _ (c.in-Some-Object.ensures.items ∙ ap (λ o. c.pop.new.self.items ++ o ∷ []) c.in-Some-Object.field-0-is)) c.place.ensures
