use Rattle.std.proofs.Common.{◌∙◌, refl, ap}
use Rattle.utoipa_base.specs.Docs.{no_docs}
use Rattle.utoipa_base.specs.Kinds.{header_object, media_type_object, named}
use Rattle.utoipa_base.specs.Refs.{ref_or_doc}
use Rattle.utoipa_base.specs.Views.{map_of_docs}
use Rattle.utoipa_base.proofs.TableParts.{same_field, same_woven, same_table}
use Rattle.utoipa_media.specs.Docs.{content_doc}
use Rattle.utoipa_media.specs.Parts.{header_order}
use Rattle.utoipa_media.proofs.copy.clone_header_with.Goals as goal

pub returns : goal.returns
returns c = λ content.
    let copied = c.in_ok-rows.ensures in
    c.header_of.ensures
    ∙ same_table header_object _ _ _ _
    (same_woven header_order _ _ _ _ copied.0 (same_field _ _ no_docs no_docs (ap (map_of_docs (ref_or_doc (named media_type_object) content_doc)) copied.2 ∙ content) refl))
    copied.1
