use Rattle.utoipa_merging.proofs.Examples.{three_merged}
use Rattle.utoipa_merging.proofs.laws.three_documents.Goals as goal

pub returns : goal.returns
returns c = three_merged
