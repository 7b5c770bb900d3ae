use Rattle.std.proofs.Common.{◌≡◌, ◌++◌}
use Rattle.utoipa_check.specs.Views.{step_of}
use Rattle.utoipa_duplicates.specs.Duplicates.{behind}
use Rattle.utoipa_duplicates.specs.Views.{places_of}
use Rattle.utoipa_duplicates.proofs.put_behind.Given as goal

abbrev pub invariant-loop-pointer : goal.invariant-loop-pointer
invariant-loop-pointer l = record {
  passed : l.yielded ++ l.pointer-iterator.rest.items ≡ l.fn.inner.items;
  put : places_of l.found.items ≡ places_of l.initial.found.items ++ behind (step_of l.step) (places_of l.yielded);
}
