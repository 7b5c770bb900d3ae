use Rattle.std.proofs.Common.{ap, ◌∙◌, ◌++◌, ◌∷◌, []}
use Rattle.std.proofs.lemmas.Result.{on_ok_weaker}
use Rattle.utoipa_base.proofs.Building.{array_ended}
use Rattle.utoipa_base.proofs.builder.TreeBuilderJsonSink.end_array.Goals as goal

pub returns : goal.returns
returns c = on_ok_weaker c.place.result (array_ended _ c.pop.new.self.items c.in-Some-Array.items _ _ (c.in-Some-Array.ensures.items ∙ ap (λ o. c.pop.new.self.items ++ o ∷ []) c.in-Some-Array.field-0-is)) c.place.ensures
