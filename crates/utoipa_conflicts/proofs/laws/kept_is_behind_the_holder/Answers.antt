use Rattle.utoipa_conflicts.proofs.Kept.{kept_behind}
use Rattle.utoipa_conflicts.proofs.laws.kept_is_behind_the_holder.Goals as goal

pub returns : goal.returns
returns c = kept_behind
