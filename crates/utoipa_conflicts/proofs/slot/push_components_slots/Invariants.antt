use Rattle.std.proofs.Common.{◌≡◌, ◌++◌}
use Rattle.serde_json.specs.View.{members_view}
use Rattle.utoipa_base.specs.EachMember.{each_member}
use Rattle.utoipa_conflicts.specs.Conflicts.{component_slots}
use Rattle.utoipa_conflicts.specs.Views.{all_filled}
use Rattle.utoipa_conflicts.proofs.slot.push_components_slots.Given as goal

abbrev pub invariant-loop-kind : goal.invariant-loop-kind
invariant-loop-kind l =
    all_filled l.slots.items ++ each_member component_slots (members_view l.kind-iterator)
    ≡ all_filled l.initial.slots.items ++ each_member component_slots (members_view l.initial.kind-iterator)
