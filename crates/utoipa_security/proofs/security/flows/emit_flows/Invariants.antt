use Rattle.utoipa_base.specs.Writing.{write}
use Rattle.utoipa_base.proofs.Sending.{EntriesSent}
use Rattle.utoipa_security.specs.OAuth.{flow_view}
use Rattle.utoipa_security.proofs.security.flows.emit_flows.Given as goal

abbrev pub invariant-loop-name : goal.invariant-loop-name
invariant-loop-name g l = EntriesSent g.S.JsonSink.adds (λ x. write (flow_view x)) l.flows.entries l.name-iterator l.initial.out l.out
