use Rattle.std.proofs.lemmas.List.Elements.{recursion_from_All}
use Rattle.utoipa_merging.proofs.ShallowMerged.{merged_shallow, nested_shallow}
use Rattle.utoipa_merging.proofs.laws.merged_no_deeper.Goals as goal

pub returns-clause-merged : goal.returns-clause-merged
returns-clause-merged c = merged_shallow

pub returns-clause-nested : goal.returns-clause-nested
returns-clause-nested c = λ n six answers own nested d h g m u v a. nested_shallow n six answers own nested d h g m u v (recursion_from_All _ answers a)
