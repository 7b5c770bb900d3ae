use Rattle.std.proofs.Common.{◌≡◌, ◌++◌}
use Rattle.serde_json.specs.View.{members_view}
use Rattle.utoipa_base.specs.EachMember.{each_member}
use Rattle.utoipa_conflicts.specs.Nested.{item_unless_extension}
use Rattle.utoipa_conflicts.specs.Views.{all_items}
use Rattle.utoipa_conflicts.proofs.nested.push_items.Given as goal

abbrev pub invariant-loop-path : goal.invariant-loop-path
invariant-loop-path l =
    all_items l.items.items ++ each_member item_unless_extension (members_view l.path-iterator)
    ≡ all_items l.initial.items.items ++ each_member item_unless_extension (members_view l.initial.path-iterator)
