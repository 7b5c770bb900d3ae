use Rattle.std.proofs.Common.{◌∙◌, sym}
use Rattle.utoipa_base.proofs.SendingAmong.{defaulted_among, defaulted_absent}
use Rattle.utoipa_base.proofs.emit_rows.emit_defaulted.Goals as goal

pub returns-then-is_omitted : goal.returns-then-is_omitted
returns-then-is_omitted g c = defaulted_absent g.S.JsonSink.adds _ g.T.Documented.kind _ _ _ (sym c.is_omitted.ensures ∙ c.if-is_omitted.true) (g.met.S.JsonSink.none _)

pub returns : goal.returns
returns g c =
    defaulted_among g.S.JsonSink.adds g.met.S.JsonSink.both _ g.T.Documented.kind _ _ _ _ _ _ (sym c.is_omitted.ensures ∙ c.if-is_omitted.false) c.in_ok-later.ensures c.in_ok-emit.ensures
