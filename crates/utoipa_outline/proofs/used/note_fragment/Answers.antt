use Rattle.std.proofs.Common.{◌≡◌, ◌∙◌, ◌||◌, ℕ, List, OnOk, ap, sym, subst}
use Rattle.std.specs.BTreeSet.{contains_text}
use Rattle.std.specs.Str.{IsUtf8}
use Rattle.percent_encoding.specs.Percent.{percent_decode}
use Rattle.utoipa_outline.specs.Used.{is_token, schema_token}
use Rattle.utoipa_outline.proofs.Naming.{of_utf8, of_no_utf8}
use Rattle.utoipa_outline.proofs.used.note_fragment.Goals as goal

pub returns-in-Ok : goal.returns-in-Ok
returns-in-Ok c =
    let same = c.percent_decode.ensures.bytes ∙ ap percent_decode c.as_bytes.ensures.value in
    let token = ap schema_token (c.deref.ensures.value ∙ c.in-Ok.ensures.value ∙ same) ∙ of_utf8 _ (subst IsUtf8 same c.in-Ok.ensures.ok_only_if_utf8) in
    subst (λ o. OnOk c.note_pointer.result ((t : List ℕ) → contains_text c.note_pointer.new.used t ≡ (is_token t o || contains_text c.args.used.now t))) token c.note_pointer.ensures

pub returns-in-Err-Utf8 : goal.returns-in-Err-Utf8
returns-in-Err-Utf8 c = λ t.
    let same = c.percent_decode.ensures.bytes ∙ ap percent_decode c.as_bytes.ensures.value in
    ap (λ o. is_token t o || contains_text c.args.used.now t) (of_no_utf8 _ (λ is. let other = c.in-Err-Utf8.ensures.utf8 (subst IsUtf8 (sym same) is) in cc))
