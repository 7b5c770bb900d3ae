use Rattle.utoipa_conflicts.proofs.WhatIsLost.{told_where_lost}
use Rattle.utoipa_conflicts.proofs.laws.conflicts_are_what_is_lost.Goals as goal

pub returns : goal.returns
returns c = told_where_lost
