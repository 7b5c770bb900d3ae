use Rattle.std.proofs.Common.{◌≡◌}
use Rattle.utoipa_base.specs.AllOrNone.{undone}
use Rattle.utoipa_base.proofs.all_or_none.take_back.Given as goal

abbrev pub invariant-loop-last : goal.invariant-loop-last
invariant-loop-last g l = undone l.rest.items l.map.entries ≡ undone l.initial.rest.items l.initial.map.entries

abbrev pub decreases-loop-last : goal.decreases-loop-last
decreases-loop-last g l = goal.left-loop-last g l
