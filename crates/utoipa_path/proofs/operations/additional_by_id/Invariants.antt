use Rattle.std.proofs.Common.{◌≡◌, map}
use Rattle.utoipa_path.specs.Operations.{additional_entry, first_with_id}
use Rattle.utoipa_path.proofs.operations.additional_by_id.Given as goal

abbrev pub invariant-loop-name : goal.invariant-loop-name
invariant-loop-name l =
    first_with_id l.operation_id (map additional_entry l.name-iterator) ≡ first_with_id l.operation_id (map additional_entry l.operations.entries)
