use Rattle.std.proofs.Common.{◌≡◌, take, map}
use Rattle.utoipa_base.proofs.tree.VecTree.try_clone.Given as goal

abbrev pub invariant-loop-item : goal.invariant-loop-item
invariant-loop-item g l = map g.T.Documented.doc l.list.items ≡ map g.T.Documented.doc (take l.item-index l.self.items)
