use Rattle.utoipa_conflicts.proofs.Listed.{of_one}
use Rattle.utoipa_conflicts.proofs.laws.one_document_has_no_conflicts.Goals as goal

pub returns-clause-one : goal.returns-clause-one
returns-clause-one c = of_one
