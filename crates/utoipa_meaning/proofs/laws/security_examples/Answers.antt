use Rattle.std.proofs.Common.{refl}
use Rattle.utoipa_meaning.proofs.laws.security_examples.Goals as goal

pub returns-clause-inherited : goal.returns-clause-inherited
returns-clause-inherited c = refl

pub returns-clause-overridden : goal.returns-clause-overridden
returns-clause-overridden c = refl

pub returns-clause-removed : goal.returns-clause-removed
returns-clause-removed c = refl

pub returns-clause-absent : goal.returns-clause-absent
returns-clause-absent c = refl
