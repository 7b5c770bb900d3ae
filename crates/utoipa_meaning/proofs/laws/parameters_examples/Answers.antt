use Rattle.utoipa_meaning.proofs.Examples.{overridden, lost}
use Rattle.utoipa_meaning.proofs.laws.parameters_examples.Goals as goal

pub returns-clause-overridden : goal.returns-clause-overridden
returns-clause-overridden c = overridden

pub returns-clause-lost : goal.returns-clause-lost
returns-clause-lost c = lost
