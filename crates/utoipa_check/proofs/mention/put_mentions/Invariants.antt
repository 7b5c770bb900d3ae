use Rattle.std.proofs.Common.{◌≡◌, ◌++◌}
use Rattle.utoipa_check.specs.References as specs
use Rattle.utoipa_check.specs.ReferenceViews.{mentions_of}
use Rattle.utoipa_check.specs.Views.{step_of}
use Rattle.utoipa_check.proofs.mention.put_mentions.Given as goal

abbrev pub invariant-loop-mention : goal.invariant-loop-mention
invariant-loop-mention l = record {
  passed : l.yielded ++ l.mention-iterator.rest.items ≡ l.fn.inner.items;
  put : mentions_of l.found.items ≡ mentions_of l.initial.found.items ++ specs.under (step_of l.step) (mentions_of l.yielded);
}
