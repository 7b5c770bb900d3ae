use Rattle.std.proofs.Common.{◌≡◌, ◌++◌}
use Rattle.serde_json.specs.View.{members_view}
use Rattle.utoipa_base.specs.EachMember.{each_member}
use Rattle.utoipa_conflicts.specs.Conflicts.{item_slots}
use Rattle.utoipa_conflicts.specs.Views.{all_filled}
use Rattle.utoipa_conflicts.proofs.slot.push_whole_item_slots.Given as goal

abbrev pub invariant-loop-name : goal.invariant-loop-name
invariant-loop-name l =
    all_filled l.slots.items ++ each_member (item_slots l.path) (members_view l.name-iterator)
    ≡ all_filled l.initial.slots.items ++ each_member (item_slots l.path) (members_view l.initial.name-iterator)
