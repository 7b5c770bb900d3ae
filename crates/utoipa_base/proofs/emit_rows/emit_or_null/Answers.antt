use Rattle.utoipa_base.proofs.SendingAmong.{or_null_among}
use Rattle.utoipa_base.proofs.emit_rows.emit_or_null.Goals as goal

pub returns : goal.returns
returns g c = or_null_among g.S.JsonSink.adds g.met.S.JsonSink.both _ g.T.Documented.kind _ _ _ _ _ _ c.in_ok-later.ensures c.in_ok-emit_option.ensures
