use Rattle.utoipa_merging.proofs.Nesting.{nested_unique}
use Rattle.utoipa_merging.proofs.laws.nested_in_one_way.Goals as goal

pub returns : goal.returns
returns c = nested_unique
