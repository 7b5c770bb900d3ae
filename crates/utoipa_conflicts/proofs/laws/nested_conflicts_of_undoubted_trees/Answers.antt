use Rattle.utoipa_conflicts.proofs.Undoubted.{items_of_read, lost_by_nesting_read}
use Rattle.utoipa_conflicts.proofs.laws.nested_conflicts_of_undoubted_trees.Goals as goal

pub returns-clause-items : goal.returns-clause-items
returns-clause-items c = items_of_read

pub returns-clause-lost : goal.returns-clause-lost
returns-clause-lost c = lost_by_nesting_read
