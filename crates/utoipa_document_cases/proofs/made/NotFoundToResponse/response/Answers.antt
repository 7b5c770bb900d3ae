use Rattle.std.proofs.Common.{refl}
use Rattle.utoipa_document_cases.proofs.made.NotFoundToResponse.response.Goals as goal

pub returns : goal.returns
returns c = (refl, c.in_ok-described.ensures)
