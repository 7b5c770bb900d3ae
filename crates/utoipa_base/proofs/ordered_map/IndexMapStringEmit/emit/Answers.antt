use Rattle.std.proofs.Common.{◌∙◌, refl, sym, ap}
use Rattle.std.proofs.lemmas.Result.{on_ok_weaker}
use Rattle.utoipa_base.specs.Docs.{entries_of_list}
use Rattle.utoipa_base.specs.Events.{events}
use Rattle.utoipa_base.specs.Views.{shown_members, pairs_of}
use Rattle.utoipa_base.proofs.Sending.{added_as, whole_object}
use Rattle.utoipa_base.proofs.SendingAmong.{shown_begun, shown_step, shown_all}
use Rattle.utoipa_base.proofs.OrderedMaps.{write-ordered_map}
use Rattle.utoipa_base.proofs.ordered_map.IndexMapStringEmit.emit.Goals as goal

pub loop-name-init : goal.loop-name-init
loop-name-init g c = shown_begun g.S.JsonSink.adds _ _ _ _ (g.met.S.JsonSink.none _) refl

pub loop-name-preserved : goal.loop-name-preserved
loop-name-preserved g c =
    shown_step g.S.JsonSink.adds g.met.S.JsonSink.both g.T.Documented.doc _ _ _ _ _ _ _ _ c.loop-name.invariant c.in-Some.ensures.steps c.in_ok-key.ensures c.in_ok-emit.ensures

pub returns : goal.returns
returns g c =
    let f = g.T.Documented.doc in
    on_ok_weaker c.end_object.result
    (λ ended. added_as g.S.JsonSink.adds _ _ _ _ (whole_object _ ∙ ap events (sym (write-ordered_map (entries_of_list (pairs_of f c.args.self.now.entries)))))
    (g.met.S.JsonSink.both _ _ _ _ _
    (g.met.S.JsonSink.both _ _ _ _ _ c.in_ok-begin_object.ensures
    (shown_all g.S.JsonSink.adds f _ _ _ _ _ c.loop-name.invariant c.in-None.ensures.steps.0
    (ap (shown_members f) (c.into_iter-name-iterator.ensures.into_iter_gives ∙ c.iter-name-items.ensures.rest) ∙ c.in_ok-sorted.ensures))) ended))
    c.end_object.ensures
