use Rattle.std.proofs.Common.{◌∙◌, ap}
use Rattle.utoipa_base.specs.Views.{pairs_of}
use Rattle.utoipa_operation_parts.specs.Traits.{response_place_doc, with_later}
use Rattle.utoipa_operation_parts.proofs.ResponsesByCode.{put_as_docs}
use Rattle.utoipa_operation_parts.proofs.traits.ResultIntoResponses.responses.Goals as goal

pub returns : goal.returns
returns g c =
    let of_ok = c.in_ok-responses.responses in
    let of_err = c.in_ok-responses-2.field-0 in
    ap (pairs_of response_place_doc) c.in_ok-put_responses.ensures ∙ put_as_docs response_place_doc of_err.entries of_ok.entries
    ∙ ap (λ first. with_later first (pairs_of response_place_doc of_err.entries)) c.in_ok-responses.ensures
    ∙ ap (with_later g.T.IntoResponses.answered) c.in_ok-responses-2.ensures
