use Rattle.utoipa_merging.proofs.TextsMerged.{texts_compose}
use Rattle.utoipa_merging.proofs.laws.merging_texts_composes.Goals as goal

pub returns : goal.returns
returns c = texts_compose
