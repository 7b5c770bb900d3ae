use Rattle.std.proofs.Common.{◌≡◌, ◌++◌, drop}
use Rattle.utoipa_check.proofs.dropped.put_place.Given as goal

abbrev pub invariant-loop-step : goal.invariant-loop-step
invariant-loop-step l = l.steps.items ++ drop l.step-index l.path.items ≡ l.path.items
