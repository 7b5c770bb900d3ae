use Rattle.utoipa_conflicts.proofs.MergedSlots.{merged_has_kept}
use Rattle.utoipa_conflicts.proofs.laws.merged_has_what_is_kept.Goals as goal

pub returns : goal.returns
returns c = merged_has_kept
