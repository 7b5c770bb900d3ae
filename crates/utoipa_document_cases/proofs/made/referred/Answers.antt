use Rattle.std.proofs.Common.{◌∙◌, ap}
use Rattle.utoipa_base.specs.Docs.{ref_doc}
use Rattle.utoipa_base.specs.Kinds.{named, response_object}
use Rattle.utoipa_operation_parts.specs.Described.{bare_reference, reference_is_bare}
use Rattle.utoipa_document_cases.proofs.made.referred.Goals as goal

pub returns : goal.returns
returns c = ap (ref_doc (named response_object)) (reference_is_bare c.in_ok-from_str.field-0 c.new-reference.result c.new-reference.ensures.location c.new-reference.ensures.alone ∙ ap bare_reference c.in_ok-from_str.ensures.ok)
