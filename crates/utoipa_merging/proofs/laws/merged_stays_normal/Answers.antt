use Rattle.utoipa_merging.proofs.NormalMerged.{merged_normal}
use Rattle.utoipa_merging.proofs.laws.merged_stays_normal.Goals as goal

pub returns : goal.returns
returns c = merged_normal
