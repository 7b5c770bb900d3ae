use Rattle.std.proofs.Common.{◌∙◌, sym}
use Rattle.utoipa_base.specs.Pending.{pending_view}
use Rattle.utoipa_base.proofs.FieldsInOrder.{none_before}
use Rattle.utoipa_base.proofs.SendingAmong.{over_begun, over_step, over_all}
use Rattle.utoipa_base.proofs.pending.PendingExtensions.emit_before.Goals as goal

pub loop-pending-init : goal.loop-pending-init
loop-pending-init g c = over_begun g.S.JsonSink.adds _ _ _ (g.met.S.JsonSink.none _)

pub loop-pending-preserved : goal.loop-pending-preserved
loop-pending-preserved g c =
    over_step g.S.JsonSink.adds g.met.S.JsonSink.both _ _ _ _ _ _ _ c.loop-pending.invariant (sym c.begins_before.ensures ∙ c.loop-pending-test.true) c.in_ok-pending.ensures.0 c.in_ok-pending.ensures.1

pub returns : goal.returns
returns g c =
    let past = sym c.begins_before.ensures ∙ c.loop-pending-test.false in
    (none_before c.args.name.now (pending_view c.loop-pending.pending) past, c.loop-pending.invariant.after, over_all g.S.JsonSink.adds _ _ _ _ _ c.loop-pending.invariant past)
