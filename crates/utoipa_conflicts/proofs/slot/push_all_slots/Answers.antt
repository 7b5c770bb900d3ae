use Rattle.utoipa_conflicts.proofs.Apart.{apart_from_sorted}
use Rattle.utoipa_conflicts.proofs.slot.push_all_slots.Goals as goal

pub returns-clause-apart : goal.returns-clause-apart
returns-clause-apart c = apart_from_sorted c.args.members.now.entries c.iter-name-items.ensures.ordered
