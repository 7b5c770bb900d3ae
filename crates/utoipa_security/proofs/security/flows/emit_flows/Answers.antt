use Rattle.std.proofs.Common.{ap, sym, ◌∙◌}
use Rattle.std.proofs.lemmas.Result.{on_ok_weaker}
use Rattle.utoipa_base.specs.Events.{events}
use Rattle.utoipa_base.specs.Writing.{write}
use Rattle.utoipa_base.proofs.Sending.{no_entry_sent, one_more_entry, all_entries_sent, whole_object, added_as}
use Rattle.utoipa_base.proofs.Tokens.{map_of_trees}
use Rattle.utoipa_security.specs.OAuth.{flow_view}
use Rattle.utoipa_security.proofs.KeyedFlows.{write-flow}
use Rattle.utoipa_security.proofs.security.flows.emit_flows.Goals as goal

pub loop-name-init : goal.loop-name-init
loop-name-init g c = no_entry_sent g.S.JsonSink.adds _ _ _ _ (g.met.S.JsonSink.none _) (c.into_iter-name-iterator.ensures.into_iter_gives ∙ c.iter-name-items.ensures.rest)

pub loop-name-preserved : goal.loop-name-preserved
loop-name-preserved g c =
    let sends = added_as g.S.JsonSink.adds _ _ _ _ (ap events (sym (write-flow c.in-Some.member.now))) c.in_ok-emit.ensures in
    one_more_entry g.S.JsonSink.adds (λ x. write (flow_view x)) g.met.S.JsonSink.both _ _ _ _ _ _ _ _ _ c.loop-name.invariant c.in-Some.ensures.steps c.as_str.ensures.value c.in_ok-key.ensures sends

pub returns : goal.returns
returns g c =
    on_ok_weaker c.end_object.result
    (λ ended. added_as g.S.JsonSink.adds _ _ _ _ (whole_object _ ∙ ap events (map_of_trees flow_view c.args.flows.now.entries))
    (g.met.S.JsonSink.both _ _ _ _ _
    (g.met.S.JsonSink.both _ _ _ _ _ c.in_ok-begin_object.ensures (all_entries_sent g.S.JsonSink.adds (λ x. write (flow_view x)) _ _ _ _ c.loop-name.invariant c.in-None.ensures.steps.0)) ended))
    c.end_object.ensures
