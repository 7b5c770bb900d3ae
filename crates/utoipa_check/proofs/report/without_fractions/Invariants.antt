use Rattle.std.proofs.Common.{◌≡◌, ◌++◌}
use Rattle.utoipa_check.specs.Misfits as specs
use Rattle.utoipa_check.specs.Views.{misfits_of}
use Rattle.utoipa_check.proofs.report.without_fractions.Given as goal

abbrev pub invariant-loop-misfit : goal.invariant-loop-misfit
invariant-loop-misfit l = record {
  passed : l.yielded ++ l.misfit-iterator.rest.items ≡ l.fn.found.items;
  put : misfits_of l.others.items ≡ specs.without_fractions (misfits_of l.yielded);
}
