use Rattle.std.proofs.Common.{◌∙◌, sym}
use Rattle.std.proofs.lemmas.Result.{on_ok_weaker}
use Rattle.utoipa_base.proofs.FieldsInOrder.{none-next}
use Rattle.utoipa_base.proofs.SendingAmong.{so_far_begun, so_far_step, all_ended}
use Rattle.utoipa_base.proofs.pending.PendingExtensions.emit_end.Goals as goal

pub loop-pending-init : goal.loop-pending-init
loop-pending-init g c = so_far_begun g.S.JsonSink.adds _ _ (g.met.S.JsonSink.none _)

pub loop-pending-preserved : goal.loop-pending-preserved
loop-pending-preserved g c = so_far_step g.S.JsonSink.adds g.met.S.JsonSink.both _ _ _ _ _ _ c.loop-pending.invariant c.in_ok-pending.ensures.0 c.in_ok-pending.ensures.1

pub returns : goal.returns
returns g c =
    on_ok_weaker c.end_object.result
    (λ ended. all_ended g.S.JsonSink.adds g.met.S.JsonSink.both _ _ _ _ _ c.loop-pending.invariant (none-next _ (sym c.is_some.ensures ∙ c.loop-pending-test.false)) ended)
    c.end_object.ensures
