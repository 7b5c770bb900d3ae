use Rattle.utoipa_conflicts.proofs.WhatIsLost.{nothing_told_where_all_there}
use Rattle.utoipa_conflicts.proofs.laws.without_conflicts_all_is_there.Goals as goal

pub returns : goal.returns
returns c = nothing_told_where_all_there
