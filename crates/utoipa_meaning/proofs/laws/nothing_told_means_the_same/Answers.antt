use Rattle.utoipa_meaning.proofs.Unchanged.{unchanged}
use Rattle.utoipa_meaning.proofs.laws.nothing_told_means_the_same.Goals as goal

pub returns : goal.returns
returns c = unchanged
