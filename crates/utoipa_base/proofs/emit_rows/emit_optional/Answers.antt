use Rattle.utoipa_base.proofs.SendingAmong.{optional_among, optional_absent}
use Rattle.utoipa_base.proofs.emit_rows.emit_optional.Goals as goal

pub returns-in_ok-emit-in-Some : goal.returns-in_ok-emit-in-Some
returns-in_ok-emit-in-Some g c = rw c.in-Some.is (optional_among g.S.JsonSink.adds g.met.S.JsonSink.both _ g.T.Documented.kind _ _ _ _ _ _ c.in_ok-later-in-Some.ensures c.in_ok-emit-in-Some.ensures)

pub returns-in-None : goal.returns-in-None
returns-in-None g c = rw c.in-None.is (optional_absent g.S.JsonSink.adds _ g.T.Documented.kind _ _ (g.met.S.JsonSink.none _))
