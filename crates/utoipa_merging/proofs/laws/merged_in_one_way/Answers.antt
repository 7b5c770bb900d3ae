use Rattle.utoipa_merging.proofs.Unique.{merged_unique}
use Rattle.utoipa_merging.proofs.laws.merged_in_one_way.Goals as goal

pub returns : goal.returns
returns c = merged_unique
