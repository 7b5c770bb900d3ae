use Rattle.std.proofs.lemmas.Result.{IfOk-weaker}
use Rattle.utoipa_base.proofs.RowLists.{rows_from-first}
use Rattle.utoipa_base.proofs.SendingAmong.{rows_among}
use Rattle.utoipa_base.proofs.emit_rows.Tuple2EmitRows.emit.Goals as goal

pub returns : goal.returns
returns g c =
    rw (rows_from-first g.H.EmitRow.line g.R.EmitRows.rows c.args.names.now _ c.requires)
    (IfOk-weaker c.emit-2.result _ _ (λ left later. rows_among g.S.JsonSink.adds g.met.S.JsonSink.both _ _ _ _ _ _ _ _ _ _ c.in_ok-later.ensures later) c.emit-2.ensures)
