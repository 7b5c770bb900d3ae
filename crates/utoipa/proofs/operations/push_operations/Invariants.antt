use Rattle.std.proofs.Common.{◌≡◌, ◌++◌, drop, map}
use Rattle.utoipa_path.specs.Operations.{all_keyed}
use Rattle.utoipa.specs.Operations.{all_located, located, operations_at}
use Rattle.utoipa.proofs.operations.push_operations.Given as goal

abbrev pub invariant-loop-operation : goal.invariant-loop-operation
invariant-loop-operation l =
    all_located l.found.items ++ map (located l.path) (all_keyed (drop l.operation-index l.operation-items)) ≡ all_located l.fn.found.items ++ operations_at l.path l.item
