use Rattle.std.proofs.Common.{◌≤◌, length, map, string_bytes, subst}
use Rattle.std.specs.Slice.Iter.{iter_rest}
use Rattle.utoipa_conflicts.specs.Views.{all_items}
use Rattle.utoipa_conflicts.proofs.NestedItems.{all_answered}
use Rattle.utoipa_conflicts.proofs.nested.answered.Goals as goal

pub returns : goal.returns
returns c =
    let past = subst (λ items. length items ≤ c.loop-item.item-index) c.deref-item-items.ensures.value c.loop-item-test.false in
    all_answered (all_items c.loop-item.put.items) (map string_bytes c.args.answers.now) (map string_bytes (iter_rest c.loop-item.answers)) c.args.items.now.items c.loop-item.item-index past c.loop-item.invariant
