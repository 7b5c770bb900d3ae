use Rattle.std.proofs.Common.{◌∙◌}
use Rattle.utoipa_base.proofs.SendingAmong.{name_sent}
use Rattle.utoipa_base.proofs.pending.PendingExtensions.emit_key.Goals as goal

pub returns : goal.returns
returns g c =
    name_sent g.S.JsonSink.adds g.met.S.JsonSink.both _ _ _ _ _ _ (c.without.ensures c.in_ok-pending.ensures.0 ∙ c.in_ok-pending.ensures.1) c.in_ok-pending.ensures.2 c.in_ok-key.ensures
