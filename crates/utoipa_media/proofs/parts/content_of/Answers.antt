use Rattle.std.proofs.Common.{ap}
use Rattle.utoipa_media.specs.Docs.{content_layer, encoding_doc}
use Rattle.utoipa_media.specs.declared.types.Content.{out-roll-Content}
use Rattle.utoipa_media.proofs.parts.content_of.Goals as goal

pub returns : goal.returns
returns c = ap (content_layer encoding_doc) (out-roll-Content _)
