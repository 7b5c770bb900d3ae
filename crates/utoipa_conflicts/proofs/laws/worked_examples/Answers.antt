use Rattle.utoipa_conflicts.proofs.Examples.{services, paths, components}
use Rattle.utoipa_conflicts.proofs.laws.worked_examples.Goals as goal

pub returns-clause-services : goal.returns-clause-services
returns-clause-services c = services

pub returns-clause-paths : goal.returns-clause-paths
returns-clause-paths c = paths

pub returns-clause-components : goal.returns-clause-components
returns-clause-components c = components
