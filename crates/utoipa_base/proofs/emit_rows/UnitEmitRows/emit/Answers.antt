use Rattle.utoipa_base.proofs.SendingAmong.{no_row_among}
use Rattle.utoipa_base.proofs.emit_rows.UnitEmitRows.emit.Goals as goal

pub returns : goal.returns
returns g c = no_row_among g.S.JsonSink.adds _ _ (g.met.S.JsonSink.none _)
