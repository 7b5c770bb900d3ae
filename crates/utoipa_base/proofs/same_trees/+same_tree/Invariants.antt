use Rattle.std.proofs.Common.{◌≡◌, ◌↔◌, false, drop}
use Rattle.std.specs.Slice.Iter.{iter_rest}
use Rattle.serde_json.specs.View.{items_view, members_view}
use Rattle.serde_json.specs.Written.{items_have_float, members_have_float}
use Rattle.utoipa_base.proofs.same_trees.+same_tree.Given as goal

abbrev pub invariant-same_items-loop-item : goal.invariant-same_items-loop-item
invariant-same_items-loop-item l = record {
  left_whole : items_have_float (items_view (drop l.item-index l.item-items)) ≡ false;
  right_whole : items_have_float (items_view (iter_rest l.others)) ≡ false;
  same : (items_view l.item-items ≡ items_view (iter_rest l.initial.others)) ↔ (items_view (drop l.item-index l.item-items) ≡ items_view (iter_rest l.others));
}

abbrev pub invariant-same_members-loop-name : goal.invariant-same_members-loop-name
invariant-same_members-loop-name l = record {
  left_whole : members_have_float (members_view l.name-iterator) ≡ false;
  right_whole : members_have_float (members_view l.others) ≡ false;
  same : (members_view l.initial.name-iterator ≡ members_view l.initial.others) ↔ (members_view l.name-iterator ≡ members_view l.others);
}
