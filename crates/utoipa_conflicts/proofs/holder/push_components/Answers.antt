use Rattle.utoipa_conflicts.proofs.Apart.{apart_from_sorted}
use Rattle.utoipa_conflicts.proofs.holder.push_components.Goals as goal

pub returns-clause-apart : goal.returns-clause-apart
returns-clause-apart c = apart_from_sorted c.args.components.now.entries c.iter-kind-items.ensures.ordered
