use Rattle.std.proofs.Common.{sym}
use Rattle.utoipa_base.specs.Kinds.{text}
use Rattle.utoipa_base.proofs.Sending.{added_as, events-text}
use Rattle.utoipa_base.proofs.SendingAmong.{required_among}
use Rattle.utoipa_security.proofs.security.scheme_type.TypeValueEmitRow.emit.Goals as goal

pub returns : goal.returns
returns g c =
    let sends = added_as g.S.JsonSink.adds _ _ _ _ (sym (events-text _)) c.in_ok-string.ensures in
    required_among g.S.JsonSink.adds g.met.S.JsonSink.both _ text _ _ _ _ _ _ c.in_ok-later.ensures sends
