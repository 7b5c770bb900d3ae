use Rattle.std.proofs.Common.{◌≡◌, ◌∙◌, IfOk, ap, codes, refl, subst}
use Rattle.std.proofs.lemmas.Result.{IfOk-weaker}
use Rattle.utoipa_operation_parts.specs.Described.{described_place, referred_place}
use Rattle.utoipa_operation_parts.specs.Traits.{response_place_doc}
use Rattle.utoipa_document_cases.proofs.made.DoneIntoResponses.responses.Goals as goal

pub returns : goal.returns
returns c =
    let pair = c.in_ok-done in
    let first : response_place_doc pair.done ≡ described_place (codes "done") = ap response_place_doc pair.ensures.ok.0 ∙ c.in_ok-described.ensures in
    let second : response_place_doc pair.not_done ≡ described_place (codes "not done") =
    subst (λ made. IfOk made (λ response. response_place_doc response ≡ described_place (codes "not done"))) pair.ensures.ok.1 c.described-2.ensures in
    IfOk-weaker c.both.result _ _ (λ made is. is response_place_doc ∙ rw (first, second) refl) c.both.ensures
