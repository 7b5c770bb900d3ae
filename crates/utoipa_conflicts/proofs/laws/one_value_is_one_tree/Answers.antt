use Rattle.utoipa_conflicts.proofs.SameTrees.{itself, where_whole}
use Rattle.utoipa_conflicts.proofs.laws.one_value_is_one_tree.Goals as goal

pub returns-clause-itself : goal.returns-clause-itself
returns-clause-itself c = itself

pub returns-clause-whole : goal.returns-clause-whole
returns-clause-whole c = where_whole
