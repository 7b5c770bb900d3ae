use Rattle.std.proofs.Common.{◌≡◌, drop, map}
use Rattle.std.specs.List.{flat_map}
use Rattle.utoipa_path.specs.Operations.{key_of, first_with_id, member_operation, operation_members}
use Rattle.utoipa_path.specs.declared.types.PathItem.{out-PathItem}
use Rattle.utoipa_path.proofs.operations.member_by_id.Given as goal

abbrev pub invariant-loop-method : goal.invariant-loop-method
invariant-loop-method l =
    first_with_id l.operation_id (flat_map (member_operation (out-PathItem l.item)) (map key_of (drop l.method-index l.method-items)))
    ≡ first_with_id l.operation_id (flat_map (member_operation (out-PathItem l.item)) operation_members)
