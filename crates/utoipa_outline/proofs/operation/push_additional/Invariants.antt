use Rattle.std.proofs.Common.{◌≡◌, ◌++◌}
use Rattle.serde_json.specs.View.{members_view}
use Rattle.utoipa_base.specs.EachMember.{each_member}
use Rattle.utoipa_outline.specs.Operations.{operation}
use Rattle.utoipa_outline.specs.Views.{all_operations}
use Rattle.utoipa_outline.proofs.operation.push_additional.Given as goal

abbrev pub invariant-loop-method : goal.invariant-loop-method
invariant-loop-method l =
    all_operations l.found.items ++ each_member (λ method d. operation method l.path d) (members_view l.method-iterator)
    ≡ all_operations l.initial.found.items ++ each_member (λ method d. operation method l.path d) (members_view l.initial.method-iterator)
