use Rattle.utoipa_base.proofs.SendingAmong.{object_by_rows}
use Rattle.utoipa_base.proofs.emit_rows.emit_table.Goals as goal

pub returns : goal.returns
returns g c d is =
    object_by_rows g.S.JsonSink.adds g.met.S.JsonSink.both c.emit_end.result d _ _ _ _ _ _ _ _ _ is c.of.ensures c.in_ok-begin_object.ensures c.in_ok-later.ensures c.emit_end.ensures
