use Rattle.utoipa_merging.proofs.PlainMerged.{nested_plain}
use Rattle.utoipa_merging.proofs.laws.nested_stays_plain.Goals as goal

pub returns : goal.returns
returns c = nested_plain
