use Rattle.std.proofs.Common.{◌≡◌, ◌++◌, drop, string_bytes}
use Rattle.std.specs.List.{flat_map}
use Rattle.serde_json.specs.View.{view}
use Rattle.utoipa_outline.specs.Lines.{operation_line, operation_lines}
use Rattle.utoipa_outline.specs.Views.{all_operations}
use Rattle.utoipa_outline.proofs.lines.operation_lines.Given as goal

abbrev pub invariant-loop-operation : goal.invariant-loop-operation
invariant-loop-operation l =
    string_bytes l.lines ++ flat_map operation_line (all_operations (drop l.operation-index l.operation-items)) ≡ operation_lines (view l.document)
