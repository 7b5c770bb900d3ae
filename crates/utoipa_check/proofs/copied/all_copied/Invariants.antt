use Rattle.std.proofs.Common.{◌≡◌, ◌++◌, drop, map}
use Rattle.utoipa_check.specs.Views.{outcome_of}
use Rattle.utoipa_check.proofs.copied.all_copied.Given as goal

abbrev pub invariant-loop-outcome : goal.invariant-loop-outcome
invariant-loop-outcome l = map outcome_of l.all.items ++ map outcome_of (drop l.outcome-index l.outcomes) ≡ map outcome_of l.outcomes
