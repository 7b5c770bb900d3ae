use Rattle.std.proofs.Common.{◌∙◌, ap, sym, subst}
use Rattle.std.specs.Str.{IsUtf8}
use Rattle.percent_encoding.specs.Percent.{percent_decode}
use Rattle.serde_json.specs.View.{view}
use Rattle.utoipa_base.specs.References.{target_of_text}
use Rattle.utoipa_check.specs.Referring as specs
use Rattle.utoipa_check.proofs.Leading.{of_utf8, of_no_utf8}
use Rattle.utoipa_check.proofs.referring.fragment_state.Goals as goal

pub returns-in-Ok : goal.returns-in-Ok
returns-in-Ok c =
    let same = c.percent_decode.ensures.bytes ∙ ap percent_decode c.as_bytes.ensures.value in
    c.pointer_state.ensures ∙ ap (λ s. specs.target_state (target_of_text s) (view c.args.tree.now)) (c.deref.ensures.value ∙ c.in-Ok.ensures.value ∙ same) ∙ of_utf8 _ (view c.args.tree.now) (subst IsUtf8 same c.in-Ok.ensures.ok_only_if_utf8)

pub returns-in-Err-Utf8 : goal.returns-in-Err-Utf8
returns-in-Err-Utf8 c =
    let same = c.percent_decode.ensures.bytes ∙ ap percent_decode c.as_bytes.ensures.value in
    of_no_utf8 _ (view c.args.tree.now) (λ is. let other = c.in-Err-Utf8.ensures.utf8 (subst IsUtf8 (sym same) is) in cc)
