use Rattle.utoipa_merging.proofs.Composition.{merged_composes}
use Rattle.utoipa_merging.proofs.laws.merging_composes.Goals as goal

pub returns : goal.returns
returns c = merged_composes
