use Rattle.utoipa_merging.proofs.Composition.{merged_one}
use Rattle.utoipa_merging.proofs.laws.one_document.Goals as goal

pub returns : goal.returns
returns c = merged_one
