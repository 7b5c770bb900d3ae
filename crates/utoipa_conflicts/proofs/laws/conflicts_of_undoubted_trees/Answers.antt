use Rattle.utoipa_conflicts.proofs.Undoubted.{kept_of_read, lost_of_read, nothing_of_read}
use Rattle.utoipa_conflicts.proofs.laws.conflicts_of_undoubted_trees.Goals as goal

pub returns-clause-kept : goal.returns-clause-kept
returns-clause-kept c = kept_of_read

pub returns-clause-lost : goal.returns-clause-lost
returns-clause-lost c = lost_of_read

pub returns-clause-nothing : goal.returns-clause-nothing
returns-clause-nothing c = nothing_of_read
