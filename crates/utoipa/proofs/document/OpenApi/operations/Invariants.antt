use Rattle.std.proofs.Common.{◌≡◌, ◌++◌}
use Rattle.std.specs.List.{flat_map}
use Rattle.utoipa.specs.Operations.{all_located, entry_operations, document_operations}
use Rattle.utoipa.proofs.document.OpenApi.operations.Given as goal

abbrev pub invariant-loop-path : goal.invariant-loop-path
invariant-loop-path l = all_located l.found.items ++ flat_map entry_operations l.path-iterator ≡ document_operations l.self
