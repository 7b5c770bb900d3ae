use Rattle.std.proofs.Common.{◌≡◌, ◌++◌}
use Rattle.serde_json.specs.View.{view, members_view}
use Rattle.utoipa_base.specs.EachMember.{each_member}
use Rattle.utoipa_meaning.specs.Operations.{one_operation, additional_at}
use Rattle.utoipa_meaning.specs.Views.{all_operations}
use Rattle.utoipa_meaning.proofs.operation.push_additional.Given as goal

abbrev pub invariant-loop-method : goal.invariant-loop-method
invariant-loop-method l =
    all_operations l.found.items ++ each_member (λ method e. one_operation (additional_at l.path method) (view l.path_item) e) (members_view l.method-iterator)
    ≡ all_operations l.initial.found.items ++ each_member (λ method e. one_operation (additional_at l.path method) (view l.path_item) e) (members_view l.initial.method-iterator)
