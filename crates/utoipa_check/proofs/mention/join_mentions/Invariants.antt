use Rattle.std.proofs.Common.{◌≡◌, ◌++◌, length}
use Rattle.utoipa_check.specs.Mentioned.{joined}
use Rattle.utoipa_check.specs.ReferenceViews.{mentions_of, stacked_mentioned}
use Rattle.utoipa_check.proofs.mention.join_mentions.Given as goal

abbrev pub invariant-join : goal.invariant-join
invariant-join l = mentions_of l.found.items ++ joined (stacked_mentioned l.left.items) ≡ joined (stacked_mentioned l.fn.inner.items)

abbrev pub decreases-join : goal.decreases-join
decreases-join l = length l.left.items
