use Rattle.utoipa_base.proofs.ReadingLists.{ListSoFar}
use Rattle.utoipa_base.proofs.tree.VecTree.read_plain.Given as goal

abbrev pub invariant-loop-item : goal.invariant-loop-item
invariant-loop-item g l = ListSoFar g.T.Documented.kind g.T.Documented.doc l.item-items l.item-index l.list.items l.initial.readings l.readings
