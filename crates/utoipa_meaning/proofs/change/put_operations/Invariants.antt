use Rattle.std.proofs.Common.{◌≡◌, ◌++◌, drop}
use Rattle.std.specs.List.{flat_map}
use Rattle.serde_json.specs.View.{view}
use Rattle.utoipa_meaning.specs.Changes.{operation_changes}
use Rattle.utoipa_meaning.specs.Views.{all_changes, all_operations, noted}
use Rattle.utoipa_meaning.proofs.change.put_operations.Given as goal

abbrev pub invariant-loop-operation : goal.invariant-loop-operation
invariant-loop-operation l =
    all_changes l.found.items
    ++ flat_map (operation_changes (noted l.origins) l.number (view l.documents.own.now) (view l.documents.merged.now)) (all_operations (drop l.operation-index l.operations.items))
    ≡ all_changes l.initial.found.items
    ++ flat_map (operation_changes (noted l.origins) l.number (view l.documents.own.now) (view l.documents.merged.now)) (all_operations l.operations.items)
