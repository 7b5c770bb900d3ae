use Rattle.std.proofs.Common.{◌∙◌, ap}
use Rattle.utoipa_media.specs.Docs.{encoding_doc, encoding_layer, header_doc}
use Rattle.utoipa_media.specs.Folds.{encoding_is}
use Rattle.utoipa_media.specs.declared.types.Encoding.{out-roll-Encoding}
use Rattle.utoipa_media.proofs.parts.encoding_of.Goals as goal

pub returns : goal.returns
returns c = encoding_is _ ∙ ap (encoding_layer header_doc encoding_doc) (out-roll-Encoding _)
