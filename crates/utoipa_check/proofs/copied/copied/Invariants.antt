use Rattle.std.proofs.Common.{◌≡◌, ◌++◌, drop}
use Rattle.utoipa_check.specs.Views.{misfits_of}
use Rattle.utoipa_check.proofs.copied.copied.Given as goal

abbrev pub invariant-loop-misfit : goal.invariant-loop-misfit
invariant-loop-misfit l = misfits_of l.found.items ++ misfits_of (drop l.misfit-index l.misfits.items) ≡ misfits_of l.misfits.items
