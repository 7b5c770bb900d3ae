use Rattle.utoipa_base.proofs.WritingMaps.{MapCopied}
use Rattle.utoipa_base.proofs.tree.BTreeMapStringTree.try_clone.Given as goal

abbrev pub invariant-loop-key : goal.invariant-loop-key
invariant-loop-key g l = MapCopied g.T.Documented.doc l.self.entries l.key-iterator l.map.entries
