use Rattle.utoipa_merging.proofs.Composition.{merged_nothing}
use Rattle.utoipa_merging.proofs.laws.nothing_added.Goals as goal

pub returns : goal.returns
returns c = merged_nothing
