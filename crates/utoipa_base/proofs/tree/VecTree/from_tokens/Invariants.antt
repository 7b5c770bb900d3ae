use Rattle.std.proofs.Common.{length, ◌-◌}
use Rattle.utoipa_base.proofs.TokenLists.{ItemsSoFar}
use Rattle.utoipa_base.proofs.tree.VecTree.from_tokens.Given as goal

abbrev pub invariant-items : goal.invariant-items
invariant-items g l = ItemsSoFar g.T.Documented.kind g.T.Documented.doc (l.depth - 1) l.initial.reader l.reader l.list.items l.initial.readings l.readings

abbrev pub decreases-items : goal.decreases-items
decreases-items g l = length l.reader
