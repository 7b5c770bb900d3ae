use Rattle.std.proofs.Common.{◌≡◌, ◌++◌, length}
use Rattle.utoipa_check.specs.Places.{joined}
use Rattle.utoipa_check.specs.Views.{misfits_of, stacked}
use Rattle.utoipa_check.proofs.misfit.join_all.Given as goal

abbrev pub invariant-join : goal.invariant-join
invariant-join l = misfits_of l.found.items ++ joined (stacked l.left.items) ≡ joined (stacked l.fn.inner.items)

abbrev pub decreases-join : goal.decreases-join
decreases-join l = length l.left.items
