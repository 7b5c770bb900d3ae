use Rattle.std.proofs.Common.{ap, ◌∙◌, arith}
use Rattle.std.proofs.lemmas.Result.{on_ok_weaker}
use Rattle.utoipa_base.specs.Events.{events}
use Rattle.utoipa_base.specs.Writing.{write}
use Rattle.utoipa_base.proofs.Sending.{no_items_yet, one_more_item, whole_list, added_as}
use Rattle.utoipa_base.proofs.Tokens.{list_of_trees}
use Rattle.utoipa_base.proofs.emit.VecEmit.emit.Goals as goal

pub loop-item-init : goal.loop-item-init
loop-item-init g c = added_as g.S.JsonSink.adds _ _ _ _ (no_items_yet (λ x. write (g.T.Documented.doc x)) c.deref-item-items.result.now) (g.met.S.JsonSink.none _)

pub loop-item-preserved : goal.loop-item-preserved
loop-item-preserved g c =
    added_as g.S.JsonSink.adds _ _ _ _ (one_more_item (λ x. write (g.T.Documented.doc x)) c.deref-item-items.result.now c.loop-item.item-index c.item-item.result (omega arith) c.item-item.is)
    (g.met.S.JsonSink.both _ _ _ _ _ c.loop-item.invariant c.in_ok-emit.ensures)

pub returns : goal.returns
returns g c =
    on_ok_weaker c.end_array.result
    (λ ended. added_as g.S.JsonSink.adds _ _ _ _
    (whole_list (λ x. write (g.T.Documented.doc x)) _ c.args.self.now.items c.loop-item.item-index (omega arith) c.deref-item-items.ensures.value ∙ ap events (list_of_trees g.T.Documented.doc c.args.self.now.items))
    (g.met.S.JsonSink.both _ _ _ _ _ (g.met.S.JsonSink.both _ _ _ _ _ c.in_ok-begin_array.ensures c.loop-item.invariant) ended))
    c.end_array.ensures
