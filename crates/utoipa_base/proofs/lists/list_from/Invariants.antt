use Rattle.std.proofs.Common.{◌≡◌}
use Rattle.utoipa_base.proofs.lists.list_from.Given as goal

abbrev pub invariant-loop-item : goal.invariant-loop-item
invariant-loop-item g l = l.list.items ≡ l.yielded
