use Rattle.std.proofs.Common.{◌≡◌, ◌++◌}
use Rattle.serde_json.specs.View.{members_view}
use Rattle.utoipa_base.specs.EachMember.{each_member}
use Rattle.utoipa_meaning.specs.Operations.{entry_operations}
use Rattle.utoipa_meaning.specs.Views.{all_operations}
use Rattle.utoipa_meaning.proofs.operation.push_entries.Given as goal

abbrev pub invariant-loop-path : goal.invariant-loop-path
invariant-loop-path l =
    all_operations l.found.items ++ each_member entry_operations (members_view l.path-iterator)
    ≡ all_operations l.initial.found.items ++ each_member entry_operations (members_view l.initial.path-iterator)
