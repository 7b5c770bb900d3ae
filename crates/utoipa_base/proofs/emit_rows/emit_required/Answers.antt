use Rattle.utoipa_base.proofs.SendingAmong.{required_among}
use Rattle.utoipa_base.proofs.emit_rows.emit_required.Goals as goal

pub returns : goal.returns
returns g c = required_among g.S.JsonSink.adds g.met.S.JsonSink.both _ g.T.Documented.kind _ _ _ _ _ _ c.in_ok-later.ensures c.in_ok-emit.ensures
