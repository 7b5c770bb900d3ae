use Rattle.utoipa_base.specs.Writing.{write}
use Rattle.utoipa_base.proofs.Sending.{EntriesSent}
use Rattle.utoipa_base.proofs.emit.BTreeMapStringEmit.emit.Given as goal

abbrev pub invariant-loop-name : goal.invariant-loop-name
invariant-loop-name g l = EntriesSent g.S.JsonSink.adds (λ x. write (g.T.Documented.doc x)) l.self.entries l.name-iterator l.initial.out l.out
