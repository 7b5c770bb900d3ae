use Rattle.std.proofs.Common.{◌∙◌, ap, refl}
use Rattle.utoipa_base.specs.Views.{pairs_of}
use Rattle.utoipa_operation_parts.specs.Traits.{response_place_doc, with_later}
use Rattle.utoipa_operation_parts.proofs.ResponsesByCode.{put_as_docs}
use Rattle.utoipa_operation_parts.proofs.response.ResponsesBuilder.responses_from_into_responses.Goals as goal

pub returns : goal.returns
returns g c = (
  c.put_responses.new.responses,
  ap (pairs_of response_place_doc) c.in_ok-put_responses.ensures
      ∙ put_as_docs response_place_doc c.in_ok-responses.field-0.entries c.args.self.responses.responses.entries
      ∙ ap (with_later (pairs_of response_place_doc c.args.self.responses.responses.entries)) c.in_ok-responses.ensures,
  refl,
)
