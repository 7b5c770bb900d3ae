use Rattle.utoipa_base.proofs.SendingAmong.{ShownSent}
use Rattle.utoipa_base.proofs.ordered_map.IndexMapStringEmit.emit.Given as goal

abbrev pub invariant-loop-name : goal.invariant-loop-name
invariant-loop-name g l = ShownSent g.S.JsonSink.adds g.T.Documented.doc l.initial.name-iterator l.name-iterator l.initial.out l.out
