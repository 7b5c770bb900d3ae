use Rattle.std.proofs.Common.{◌≡◌}
use Rattle.std.specs.List.{flat_map}
use Rattle.utoipa.specs.Operations.{first_located, entry_operations, document_operations}
use Rattle.utoipa.proofs.document.OpenApi.operation_by_id.Given as goal

abbrev pub invariant-loop-path : goal.invariant-loop-path
invariant-loop-path l = first_located l.operation_id (flat_map entry_operations l.path-iterator) ≡ first_located l.operation_id (document_operations l.self)
