use Rattle.utoipa_conflicts.proofs.Apart.{apart_from_sorted}
use Rattle.utoipa_conflicts.proofs.holder.push_map.Goals as goal

pub returns-clause-apart : goal.returns-clause-apart
returns-clause-apart c = apart_from_sorted c.args.entries.now.entries c.iter-name-items.ensures.ordered
