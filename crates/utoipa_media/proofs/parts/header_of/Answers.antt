use Rattle.std.proofs.Common.{ap}
use Rattle.utoipa_media.specs.Docs.{content_doc, header_layer}
use Rattle.utoipa_media.specs.declared.types.Header.{out-roll-Header}
use Rattle.utoipa_media.proofs.parts.header_of.Goals as goal

pub returns : goal.returns
returns c = ap (header_layer content_doc) (out-roll-Header _)
