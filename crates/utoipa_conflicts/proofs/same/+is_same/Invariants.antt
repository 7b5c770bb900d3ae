use Rattle.std.proofs.Common.{◌≡◌, drop}
use Rattle.std.specs.Slice.Iter.{iter_rest}
use Rattle.serde_json.specs.View.{items_view, members_view}
use Rattle.utoipa_conflicts.specs.Same.{same_items, same_members}
use Rattle.utoipa_conflicts.proofs.same.+is_same.Given as goal

abbrev pub invariant-same_items-loop-item : goal.invariant-same_items-loop-item
invariant-same_items-loop-item l = same_items (items_view l.item-items) (items_view (iter_rest l.initial.others)) ≡ same_items (items_view (drop l.item-index l.item-items)) (items_view (iter_rest l.others))

abbrev pub invariant-same_members-loop-name : goal.invariant-same_members-loop-name
invariant-same_members-loop-name l = same_members (members_view l.initial.name-iterator) (members_view l.initial.others) ≡ same_members (members_view l.name-iterator) (members_view l.others)
