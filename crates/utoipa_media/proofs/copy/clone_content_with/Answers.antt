use Rattle.std.proofs.Common.{◌∙◌, ap}
use Rattle.utoipa_base.specs.Kinds.{media_type_object}
use Rattle.utoipa_base.proofs.TableParts.{same_woven, same_table}
use Rattle.utoipa_media.specs.Parts.{content_order, encodings_docs}
use Rattle.utoipa_media.proofs.copy.clone_content_with.Goals as goal

pub returns : goal.returns
returns c = λ encodings.
    let copied = c.in_ok-rows.ensures in
    c.content_of.ensures
    ∙ same_table media_type_object _ _ _ _
    (same_woven content_order _ _ _ _ copied.0 (ap (λ e. encodings_docs e.0 e.1 e.2) copied.2 ∙ encodings))
    copied.1
