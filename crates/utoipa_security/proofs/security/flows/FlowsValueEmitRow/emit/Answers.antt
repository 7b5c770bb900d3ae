use Rattle.utoipa_base.specs.Kinds.{flows}
use Rattle.utoipa_base.proofs.SendingAmong.{required_among}
use Rattle.utoipa_security.proofs.security.flows.FlowsValueEmitRow.emit.Goals as goal

pub returns : goal.returns
returns g c = required_among g.S.JsonSink.adds g.met.S.JsonSink.both _ flows _ _ _ _ _ _ c.in_ok-later.ensures c.in_ok-emit_flows.ensures
