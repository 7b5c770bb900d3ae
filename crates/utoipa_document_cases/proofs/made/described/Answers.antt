use Rattle.std.proofs.Common.{◌∙◌, ap}
use Rattle.utoipa_base.specs.Docs.{own_doc}
use Rattle.utoipa_operation_parts.specs.Described.{described_response, response_is_described}
use Rattle.utoipa_document_cases.proofs.made.described.Goals as goal

pub returns : goal.returns
returns c = ap own_doc (response_is_described c.in_ok-from_str.field-0 c.new-response.result c.new-response.ensures ∙ ap described_response c.in_ok-from_str.ensures.ok)
