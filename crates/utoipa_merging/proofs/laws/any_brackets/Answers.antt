use Rattle.utoipa_merging.proofs.Composition.{merged_in_brackets}
use Rattle.utoipa_merging.proofs.laws.any_brackets.Goals as goal

pub returns : goal.returns
returns c = merged_in_brackets
