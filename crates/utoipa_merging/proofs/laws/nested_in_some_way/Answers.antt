use Rattle.utoipa_merging.proofs.MadeNested.{made_nested}
use Rattle.utoipa_merging.proofs.laws.nested_in_some_way.Goals as goal

pub returns : goal.returns
returns c = λ answers own nested each h g. let m = made_nested answers own nested each h g in (m.made, m.nested, m.order)
