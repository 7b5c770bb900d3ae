use Rattle.std.proofs.Common.{◌≡◌, ◌++◌}
use Rattle.serde_json.specs.View.{members_view}
use Rattle.utoipa_base.specs.EachMember.{each_member}
use Rattle.utoipa_conflicts.specs.Conflicts.{path_slots}
use Rattle.utoipa_conflicts.specs.Views.{all_filled}
use Rattle.utoipa_conflicts.proofs.slot.push_paths_slots.Given as goal

abbrev pub invariant-loop-path : goal.invariant-loop-path
invariant-loop-path l =
    all_filled l.slots.items ++ each_member path_slots (members_view l.path-iterator)
    ≡ all_filled l.initial.slots.items ++ each_member path_slots (members_view l.initial.path-iterator)
