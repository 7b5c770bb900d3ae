use Rattle.utoipa_base.proofs.EntryMaps.{EntriesSoFar}
use Rattle.utoipa_base.proofs.entries.read_entries.Given as goal

abbrev pub invariant-loop-key : goal.invariant-loop-key
invariant-loop-key g l = EntriesSoFar g.T.Documented.kind g.T.Documented.doc l.initial.key-iterator l.key-iterator l.map.entries l.initial.readings l.readings
