use Rattle.utoipa_merging.proofs.NormalMerged.{nested_normal}
use Rattle.utoipa_merging.proofs.laws.nested_stays_normal.Goals as goal

pub returns : goal.returns
returns c = nested_normal
