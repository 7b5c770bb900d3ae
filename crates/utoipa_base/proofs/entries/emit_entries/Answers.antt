use Rattle.std.proofs.Common.{◌∙◌}
use Rattle.utoipa_base.proofs.SendingAmong.{entries_begun, entries_step, entries_all}
use Rattle.utoipa_base.proofs.entries.emit_entries.Goals as goal

pub loop-key-init : goal.loop-key-init
loop-key-init g c = entries_begun g.S.JsonSink.adds _ _ _ _ _ (c.into_iter-key-iterator.ensures.into_iter_gives ∙ c.iter-key-items.ensures.rest) (g.met.S.JsonSink.none _)

pub loop-key-preserved : goal.loop-key-preserved
loop-key-preserved g c =
    entries_step g.S.JsonSink.adds g.met.S.JsonSink.both _ _ _ _ _ _ _ _ _ _ _ _ _ c.loop-key.invariant c.in-Some.ensures.steps c.as_str.ensures.value c.in_ok-left.ensures c.in_ok-emit.ensures

pub returns : goal.returns
returns g c =
    entries_all g.S.JsonSink.adds g.met.S.JsonSink.both c.emit_end.result _ c.args.entries.now c.args.extensions.now _ _ _ _ _ _ _ c.loop-key.invariant c.in-None.ensures.steps.0 c.of-left.ensures c.in_ok-begin_object.ensures c.emit_end.ensures
