use Rattle.utoipa_conflicts.proofs.NamedOnce.{nothing_where_once}
use Rattle.utoipa_conflicts.proofs.laws.nothing_where_each_is_kept.Goals as goal

pub returns : goal.returns
returns c = nothing_where_once
