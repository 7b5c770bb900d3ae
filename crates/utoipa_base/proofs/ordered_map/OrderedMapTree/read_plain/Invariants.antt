use Rattle.utoipa_base.proofs.ReadingMaps.{MapSoFar}
use Rattle.utoipa_base.proofs.ordered_map.OrderedMapTree.read_plain.Given as goal

abbrev pub invariant-loop-key : goal.invariant-loop-key
invariant-loop-key g l = MapSoFar g.T.Documented.kind g.T.Documented.doc l.initial.key-iterator l.key-iterator l.map.entries l.initial.readings l.readings
