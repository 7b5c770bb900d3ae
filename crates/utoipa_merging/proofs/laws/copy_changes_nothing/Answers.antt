use Rattle.utoipa_merging.proofs.Composition.{merged_copy}
use Rattle.utoipa_merging.proofs.laws.copy_changes_nothing.Goals as goal

pub returns : goal.returns
returns c = merged_copy
