use Rattle.std.proofs.Common.{◌≡◌, ◌∙◌, ap, sym, subst, arith, rules}
use Rattle.std.proofs.lemmas.Result.{on_ok_weaker}
use Rattle.serde_json.specs.Data as value
use Rattle.serde_json.specs.View.{view, members_view, number_view}
use Rattle.serde_json.specs.declared.value.Value.{the_lemmas}
use Rattle.utoipa_base.specs.Events.{events, members_events}
use Rattle.utoipa_base.proofs.Sending.{added_as, events-null, events-boolean, events-number, events-string, no_items_yet, one_more_item, whole_list, no_entry_sent, one_more_entry, all_entries_sent, whole_object}
use Rattle.utoipa_base.proofs.Tokens.{view_by}
use Rattle.utoipa_base.proofs.emit.+emit_tree.Goals as goal

pub emit_tree-returns-in-Null : goal.emit_tree-returns-in-Null
emit_tree-returns-in-Null g t c =
    let seen : value.null ≡ view c.args.tree.now = rw c.in-Null.is (search (rules, the_lemmas)) in
    on_ok_weaker c.null.result (added_as g.S.JsonSink.adds _ _ _ _ (sym events-null ∙ ap events seen)) c.null.ensures

pub emit_tree-returns-in-Bool : goal.emit_tree-returns-in-Bool
emit_tree-returns-in-Bool g t c =
    let seen : value.boolean c.in-Bool.flag ≡ view c.args.tree.now = rw c.in-Bool.is (search (rules, the_lemmas)) in
    on_ok_weaker c.boolean.result (added_as g.S.JsonSink.adds _ _ _ _ (sym (events-boolean _) ∙ ap events seen)) c.boolean.ensures

pub emit_tree-returns-in-Number : goal.emit_tree-returns-in-Number
emit_tree-returns-in-Number g t c =
    let seen : value.number (number_view c.in-Number.number) ≡ view c.args.tree.now = rw c.in-Number.is (search (rules, the_lemmas)) in
    on_ok_weaker c.number.result (added_as g.S.JsonSink.adds _ _ _ _ (sym (events-number _) ∙ ap events seen)) c.number.ensures

pub emit_tree-returns-in-String : goal.emit_tree-returns-in-String
emit_tree-returns-in-String g t c =
    let seen : value.string c.as_str.result.now ≡ view c.args.tree.now = rw c.in-String.is (search (rules, the_lemmas)) in
    on_ok_weaker c.string.result (added_as g.S.JsonSink.adds _ _ _ _ (sym (events-string _) ∙ ap events seen)) c.string.ensures

pub emit_tree-returns-in_ok-emit_members-in-Object : goal.emit_tree-returns-in_ok-emit_members-in-Object
emit_tree-returns-in_ok-emit_members-in-Object g t c =
    let seen : value.object (members_view c.in-Object.members.entries) ≡ view c.args.tree.now = rw c.in-Object.is (search (rules, the_lemmas)) in
    on_ok_weaker c.end_object.result
    (λ ended. added_as g.S.JsonSink.adds _ _ _ _ (whole_object _ ∙ ap events seen)
    (g.met.S.JsonSink.both _ _ _ _ _ (g.met.S.JsonSink.both _ _ _ _ _ c.in_ok-begin_object-in-Object.ensures c.in_ok-emit_members-in-Object.ensures) ended))
    c.end_object.ensures

pub emit_items-loop-item-init : goal.emit_items-loop-item-init
emit_items-loop-item-init g t c = added_as g.S.JsonSink.adds _ _ _ _ (no_items_yet view c.deref-item-items.result.now) (g.met.S.JsonSink.none _)

pub emit_items-loop-item-preserved : goal.emit_items-loop-item-preserved
emit_items-loop-item-preserved g t c =
    added_as g.S.JsonSink.adds _ _ _ _ (one_more_item view c.deref-item-items.result.now c.loop-item.item-index c.item-item.result (omega arith) c.item-item.is) (g.met.S.JsonSink.both _ _ _ _ _ c.loop-item.invariant c.in_ok-emit_tree.ensures)

pub emit_items-returns : goal.emit_items-returns
emit_items-returns g t c =
    on_ok_weaker c.end_array.result
    (λ ended. added_as g.S.JsonSink.adds _ _ _ _ (whole_list view _ c.args.items.now.items c.loop-item.item-index (omega arith) c.deref-item-items.ensures.value)
    (g.met.S.JsonSink.both _ _ _ _ _ (g.met.S.JsonSink.both _ _ _ _ _ c.in_ok-begin_array.ensures c.loop-item.invariant) ended))
    c.end_array.ensures

pub emit_members-loop-key-init : goal.emit_members-loop-key-init
emit_members-loop-key-init g t c = no_entry_sent g.S.JsonSink.adds _ _ _ _ (g.met.S.JsonSink.none _) (c.into_iter-key-iterator.ensures.into_iter_gives ∙ c.iter-key-items.ensures.rest)

pub emit_members-loop-key-preserved : goal.emit_members-loop-key-preserved
emit_members-loop-key-preserved g t c =
    one_more_entry g.S.JsonSink.adds view g.met.S.JsonSink.both _ _ _ _ _ _ _ _ _ c.loop-key.invariant c.in-Some.ensures.steps c.as_str.ensures.value c.in_ok-key.ensures c.in_ok-emit_tree.ensures

pub emit_members-returns : goal.emit_members-returns
emit_members-returns g t c =
    subst (λ ms. g.S.JsonSink.adds c.args.out.now (members_events ms) c.loop-key.out) (view_by c.args.members.now.entries)
    (all_entries_sent g.S.JsonSink.adds view _ _ _ _ c.loop-key.invariant c.in-None.ensures.steps.0)
