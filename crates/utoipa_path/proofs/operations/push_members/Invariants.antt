use Rattle.std.proofs.Common.{◌≡◌, ◌++◌, drop, map}
use Rattle.std.specs.List.{flat_map}
use Rattle.utoipa_path.specs.Operations.{key_of, all_keyed, member_operation, operation_members}
use Rattle.utoipa_path.specs.declared.types.PathItem.{out-PathItem}
use Rattle.utoipa_path.proofs.operations.push_members.Given as goal

abbrev pub invariant-loop-method : goal.invariant-loop-method
invariant-loop-method l =
    all_keyed l.found.items ++ flat_map (member_operation (out-PathItem l.item)) (map key_of (drop l.method-index l.method-items))
    ≡ all_keyed l.initial.found.items ++ flat_map (member_operation (out-PathItem l.item)) operation_members
