-- The measures of the functions that read operations and path items, and the invariants of their loops.
use Rattle.std.proofs.Common.{◌+◌, ◌*◌}
use Rattle.serde_json.specs.View.{view}
use Rattle.utoipa_base.specs.Kinds.{named, ref_or, operation_object, path_item_object}
use Rattle.utoipa_base.specs.Refs.{ref_or_doc}
use Rattle.utoipa_base.specs.Tables.{callback}
use Rattle.utoipa_base.specs.Values.{values}
use Rattle.utoipa_base.proofs.ReadingMaps.{MapSoFar}
use Rattle.utoipa_path.specs.Docs.{operation_doc, path_item_doc, callback_doc}
use Rattle.utoipa_path.proofs.read.+read.Given as goal

abbrev pub decreases-read_operation : goal.decreases-read_operation
decreases-read_operation l = 8 * values (view l.tree.now) + 3

abbrev pub decreases-read_path_item : goal.decreases-read_path_item
decreases-read_path_item l = 8 * values (view l.tree.now) + 6

abbrev pub decreases-read_ref_or_path_item : goal.decreases-read_ref_or_path_item
decreases-read_ref_or_path_item l = 8 * values (view l.tree.now) + 7

abbrev pub decreases-read_ref_or_callback : goal.decreases-read_ref_or_callback
decreases-read_ref_or_callback l = 8 * values (view l.tree.now) + 7

abbrev pub decreases-read_callbacks : goal.decreases-read_callbacks
decreases-read_callbacks l = 8 * values (view l.tree.now) + 2

abbrev pub decreases-read_operations : goal.decreases-read_operations
decreases-read_operations l = 8 * values (view l.tree.now) + 5

abbrev pub decreases-read_method : goal.decreases-read_method
decreases-read_method l = 8 * values (view l.tree.now) + 2

abbrev pub decreases-read_additional_operations : goal.decreases-read_additional_operations
decreases-read_additional_operations l = 8 * values (view l.tree.now) + 2

abbrev pub decreases-read_callback : goal.decreases-read_callback
decreases-read_callback l = 8 * values (view l.tree.now) + 1

abbrev pub decreases-read_callback_map : goal.decreases-read_callback_map
decreases-read_callback_map l = 8 * values (view l.tree.now) + 1

abbrev pub decreases-read_operation_map : goal.decreases-read_operation_map
decreases-read_operation_map l = 8 * values (view l.tree.now) + 1

abbrev pub decreases-fill_operations : goal.decreases-fill_operations
decreases-fill_operations l = 8 * values (view l.tree.now) + 4

abbrev pub decreases-fill_method : goal.decreases-fill_method
decreases-fill_method l = 8 * values (view l.tree.now) + 3

abbrev pub decreases-fill_query : goal.decreases-fill_query
decreases-fill_query l = 8 * values (view l.tree.now) + 3

abbrev pub decreases-fill_additional_operations : goal.decreases-fill_additional_operations
decreases-fill_additional_operations l = 8 * values (view l.tree.now) + 3

abbrev pub decreases-fill_callback : goal.decreases-fill_callback
decreases-fill_callback l = 8 * values (view l.tree.now) + 0

abbrev pub decreases-fill_callback_map : goal.decreases-fill_callback_map
decreases-fill_callback_map l = 8 * values (view l.tree.now) + 0

abbrev pub decreases-fill_operation_map : goal.decreases-fill_operation_map
decreases-fill_operation_map l = 8 * values (view l.tree.now) + 0

abbrev pub invariant-fill_callback-loop-key : goal.invariant-fill_callback-loop-key
invariant-fill_callback-loop-key l = MapSoFar (ref_or (named path_item_object)) (ref_or_doc (named path_item_object) path_item_doc) l.initial.key-iterator l.key-iterator l.map.entries l.initial.readings l.readings

abbrev pub invariant-fill_callback_map-loop-key : goal.invariant-fill_callback_map-loop-key
invariant-fill_callback_map-loop-key l = MapSoFar (ref_or callback) (ref_or_doc callback callback_doc) l.initial.key-iterator l.key-iterator l.map.entries l.initial.readings l.readings

abbrev pub invariant-fill_operation_map-loop-key : goal.invariant-fill_operation_map-loop-key
invariant-fill_operation_map-loop-key l = MapSoFar (named operation_object) operation_doc l.initial.key-iterator l.key-iterator l.map.entries l.initial.readings l.readings
