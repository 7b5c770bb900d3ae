use Rattle.std.proofs.Common.{◌≡◌, ◌+◌, ◌-◌}
use Rattle.utoipa_components.specs.Resolve.{found, resolved}
use Rattle.utoipa_components.proofs.resolve.value_in.Given as goal

abbrev pub invariant-loop : goal.invariant-loop
invariant-loop g l = found (l.end + 1 - l.counter) l.map l.entries l.reached ≡ resolved l.map l.entries l.fn.place
