use Rattle.utoipa_merging.proofs.PlainMerged.{merged_plain}
use Rattle.utoipa_merging.proofs.laws.merged_stays_plain.Goals as goal

pub returns : goal.returns
returns c = merged_plain
