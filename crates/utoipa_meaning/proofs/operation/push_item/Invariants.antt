use Rattle.std.proofs.Common.{◌≡◌, ◌++◌}
use Rattle.serde_json.specs.View.{view, members_view}
use Rattle.utoipa_base.specs.EachMember.{each_member}
use Rattle.utoipa_meaning.specs.Operations.{member_operations}
use Rattle.utoipa_meaning.specs.Views.{all_operations}
use Rattle.utoipa_meaning.proofs.operation.push_item.Given as goal

abbrev pub invariant-loop-name : goal.invariant-loop-name
invariant-loop-name l =
    all_operations l.found.items ++ each_member (member_operations l.path (view l.path_item)) (members_view l.name-iterator)
    ≡ all_operations l.initial.found.items ++ each_member (member_operations l.path (view l.path_item)) (members_view l.initial.name-iterator)
