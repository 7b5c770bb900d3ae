use Rattle.utoipa_outline.proofs.OnLines.{operation_rows}
use Rattle.utoipa_outline.proofs.laws.operations_are_rows.Goals as goal

pub returns : goal.returns
returns c = operation_rows
