use Rattle.utoipa_conflicts.proofs.Listed.{listed_where_dropped, nothing_where_kept}
use Rattle.utoipa_conflicts.proofs.laws.conflicts_are_exact.Goals as goal

pub returns-clause-listed : goal.returns-clause-listed
returns-clause-listed c = listed_where_dropped

pub returns-clause-nothing : goal.returns-clause-nothing
returns-clause-nothing c = nothing_where_kept
