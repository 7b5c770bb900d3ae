use Rattle.utoipa_conflicts.proofs.NestedRest.{told_where_nested}
use Rattle.utoipa_conflicts.proofs.laws.nested_conflicts_are_what_is_lost.Goals as goal

pub returns : goal.returns
returns c = told_where_nested
