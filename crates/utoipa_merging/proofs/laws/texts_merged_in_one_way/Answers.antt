use Rattle.utoipa_merging.proofs.TextsMerged.{texts_merged_unique}
use Rattle.utoipa_merging.proofs.laws.texts_merged_in_one_way.Goals as goal

pub returns : goal.returns
returns c = texts_merged_unique
