use Rattle.std.proofs.Common.{ap, ◌∙◌}
use Rattle.std.proofs.lemmas.Result.{on_ok_weaker}
use Rattle.utoipa_base.specs.Events.{events}
use Rattle.utoipa_base.specs.Writing.{write}
use Rattle.utoipa_base.proofs.Sending.{no_entry_sent, one_more_entry, all_entries_sent, whole_object, added_as}
use Rattle.utoipa_base.proofs.Tokens.{map_of_trees}
use Rattle.utoipa_base.proofs.emit.BTreeMapStringEmit.emit.Goals as goal

pub loop-name-init : goal.loop-name-init
loop-name-init g c = no_entry_sent g.S.JsonSink.adds _ _ _ _ (g.met.S.JsonSink.none _) (c.into_iter-name-iterator.ensures.into_iter_gives ∙ c.iter-name-items.ensures.rest)

pub loop-name-preserved : goal.loop-name-preserved
loop-name-preserved g c =
    one_more_entry g.S.JsonSink.adds (λ x. write (g.T.Documented.doc x)) g.met.S.JsonSink.both _ _ _ _ _ _ _ _ _ c.loop-name.invariant c.in-Some.ensures.steps c.as_str.ensures.value c.in_ok-key.ensures c.in_ok-emit.ensures

pub returns : goal.returns
returns g c =
    on_ok_weaker c.end_object.result
    (λ ended. added_as g.S.JsonSink.adds _ _ _ _ (whole_object _ ∙ ap events (map_of_trees g.T.Documented.doc c.args.self.now.entries))
    (g.met.S.JsonSink.both _ _ _ _ _
    (g.met.S.JsonSink.both _ _ _ _ _ c.in_ok-begin_object.ensures (all_entries_sent g.S.JsonSink.adds (λ x. write (g.T.Documented.doc x)) _ _ _ _ c.loop-name.invariant c.in-None.ensures.steps.0)) ended))
    c.end_object.ensures
