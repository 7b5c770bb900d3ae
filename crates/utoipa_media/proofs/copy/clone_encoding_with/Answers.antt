use Rattle.std.proofs.Common.{◌∙◌, refl, sym, ap}
use Rattle.utoipa_base.specs.Docs.{no_docs}
use Rattle.utoipa_base.specs.Kinds.{encoding_object, header_object, named}
use Rattle.utoipa_base.specs.Refs.{ref_or_doc}
use Rattle.utoipa_base.specs.Views.{map_of_docs}
use Rattle.utoipa_base.proofs.TableParts.{same_field, same_woven, same_table}
use Rattle.utoipa_media.specs.Docs.{header_doc}
use Rattle.utoipa_media.specs.Folds.{encoding_is}
use Rattle.utoipa_media.specs.Parts.{encoding_order, headers_order, encodings_docs}
use Rattle.utoipa_media.proofs.copy.clone_encoding_with.Goals as goal

pub returns : goal.returns
returns c = λ headers encodings.
    let copied = c.in_ok-rows.ensures in
    let same_headers = ap (λ k. map_of_docs (ref_or_doc (named header_object) header_doc) k.0) copied.2 ∙ headers in
    let same_encodings = ap (λ k. encodings_docs k.1.0 k.1.1 k.1.2) copied.2 ∙ encodings in
    c.encoding_of.ensures
    ∙ same_table encoding_object _ _ _ _
    (same_woven encoding_order _ _ _ _ copied.0 (same_woven headers_order _ _ _ _ same_encodings (same_field _ _ no_docs no_docs same_headers refl)))
    copied.1
    ∙ sym (encoding_is c.args.encoding.now)
