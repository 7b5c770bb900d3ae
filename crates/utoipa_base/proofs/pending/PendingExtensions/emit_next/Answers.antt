use Rattle.std.proofs.Common.{◌≡◌, rules, string_bytes}
use Rattle.serde_json.specs.View.{view, members_view}
use Rattle.utoipa_base.specs.Events.{events}
use Rattle.utoipa_base.specs.Pending.{pending_view}
use Rattle.utoipa_base.proofs.SendingAmong.{none_next, next_sent}
use Rattle.utoipa_base.proofs.pending.PendingExtensions.emit_next.Goals as goal

pub returns-in_default : goal.returns-in_default
returns-in_default g c = none_next g.S.JsonSink.adds c.args.self.next _ (g.met.S.JsonSink.none _) c.in_default.not-Some

pub returns : goal.returns
returns g c =
    let same : c.as_str.result.now ≡ string_bytes c.in-Some.next.name.now = search rules in
    let rest : pending_view c.from_iter.result ≡ members_view c.in-Some.next.later = search rules in
    let sent : g.S.JsonSink.adds c.key.new.self (events (view c.in-Some.next.value.now)) c.emit_tree.new.out = search rules in
    next_sent g.S.JsonSink.adds g.met.S.JsonSink.both c.args.self.next c.in-Some.next _ _ _ _ _ c.in-Some.is same rest c.in_ok-key.ensures sent
