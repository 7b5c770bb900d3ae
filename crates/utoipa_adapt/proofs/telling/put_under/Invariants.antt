use Rattle.std.proofs.Common.{◌≡◌, ◌++◌}
use Rattle.utoipa_check.specs.Views.{step_of}
use Rattle.utoipa_adapt.specs.Adapted.{under}
use Rattle.utoipa_adapt.specs.Views.{all_told}
use Rattle.utoipa_adapt.proofs.telling.put_under.Given as goal

abbrev pub invariant-loop-place : goal.invariant-loop-place
invariant-loop-place l = record {
  passed : l.yielded ++ l.place-iterator.rest.items ≡ l.fn.inner.items;
  put : all_told l.told.items ≡ all_told l.initial.told.items ++ under (step_of l.step) (all_told l.yielded);
}
