use Rattle.std.proofs.Common.{◌≡◌, ◌<◌, length, get_or, subst}
use Rattle.utoipa_conflicts.proofs.NestedItems.{next_put}
use Rattle.utoipa_conflicts.proofs.nested.put_items.Goals as goal

pub loop-item-preserved : goal.loop-item-preserved
loop-item-preserved c =
    let x = c.item-item.result in
    let within = subst (λ items. c.loop-item.item-index < length items) c.deref-item-items.ensures.value c.loop-item-test.true in
    let is = subst (λ items. x ≡ get_or items c.loop-item.item-index x) c.deref-item-items.ensures.value c.item-item.is in
    next_put c.loop-item.put c.insert.new.self c.in_ok-path.path c.args.items.now.items c.loop-item.item-index x within is c.in_ok-path.ensures.ok c.in_ok-insert.ensures.entries c.loop-item.invariant
