-- The measures of the functions that copy operations and path items, and the invariants of their loops.
use Rattle.std.proofs.Common.{◌+◌, ◌*◌, option_map}
use Rattle.utoipa_base.specs.Kinds.{named, path_item_object}
use Rattle.utoipa_base.specs.Refs.{ref_or_doc}
use Rattle.utoipa_base.specs.Tables.{callback}
use Rattle.utoipa_base.specs.Views.{option_of, map_of_docs}
use Rattle.utoipa_base.proofs.Weights.{weight, docs_weight}
use Rattle.utoipa_base.proofs.WritingMaps.{MapCopied}
use Rattle.utoipa_path.specs.Docs.{operation_doc, path_item_doc, callback_doc, callbacks_doc, operations_of}
use Rattle.utoipa_path.specs.declared.types.PathItem.{out-PathItem}
use Rattle.utoipa_path.proofs.copy.+copy.Given as goal

abbrev pub decreases-clone_operation : goal.decreases-clone_operation
decreases-clone_operation l = 5 * weight (operation_doc l.operation.now) + 0

abbrev pub decreases-copy_path_item : goal.decreases-copy_path_item
decreases-copy_path_item l = 5 * weight (path_item_doc l.item.now) + 0

abbrev pub decreases-clone_boxed_path_item : goal.decreases-clone_boxed_path_item
decreases-clone_boxed_path_item l = 5 * weight (path_item_doc l.item.now) + 1

abbrev pub decreases-put_ref_or_path_item : goal.decreases-put_ref_or_path_item
decreases-put_ref_or_path_item l = 5 * weight (ref_or_doc (named path_item_object) path_item_doc l.place.now) + 0

abbrev pub decreases-clone_callback : goal.decreases-clone_callback
decreases-clone_callback l = 5 * weight (callback_doc l.callback.now) + 1

abbrev pub decreases-copy_callback : goal.decreases-copy_callback
decreases-copy_callback l = 5 * weight (callback_doc l.callback.now) + 0

abbrev pub decreases-clone_ref_or_callback : goal.decreases-clone_ref_or_callback
decreases-clone_ref_or_callback l = 5 * weight (ref_or_doc callback callback_doc l.place.now) + 0

abbrev pub decreases-clone_callback_map : goal.decreases-clone_callback_map
decreases-clone_callback_map l = 5 * weight (callbacks_doc l.callbacks.now) + 1

abbrev pub decreases-copy_callback_map : goal.decreases-copy_callback_map
decreases-copy_callback_map l = 5 * weight (callbacks_doc l.callbacks.now) + 0

abbrev pub decreases-clone_operation_map : goal.decreases-clone_operation_map
decreases-clone_operation_map l = 5 * weight (map_of_docs operation_doc l.operations.now) + 1

abbrev pub decreases-copy_operation_map : goal.decreases-copy_operation_map
decreases-copy_operation_map l = 5 * weight (map_of_docs operation_doc l.operations.now) + 0

abbrev pub decreases-clone_method : goal.decreases-clone_method
decreases-clone_method l = 5 * weight (option_of operation_doc (option_map (λ o. o.now) l.method)) + 1

abbrev pub decreases-copy_method : goal.decreases-copy_method
decreases-copy_method l = 5 * docs_weight (operations_of operation_doc (out-PathItem l.item.now)) + 2

abbrev pub decreases-copy_further_methods : goal.decreases-copy_further_methods
decreases-copy_further_methods l = 5 * docs_weight (operations_of operation_doc (out-PathItem l.item.now)) + 2

abbrev pub decreases-copy_main_methods : goal.decreases-copy_main_methods
decreases-copy_main_methods l = 5 * docs_weight (operations_of operation_doc (out-PathItem l.item.now)) + 3

abbrev pub decreases-copy_other_methods : goal.decreases-copy_other_methods
decreases-copy_other_methods l = 5 * docs_weight (operations_of operation_doc (out-PathItem l.item.now)) + 3

abbrev pub decreases-copy_operations : goal.decreases-copy_operations
decreases-copy_operations l = 5 * docs_weight (operations_of operation_doc (out-PathItem l.item.now)) + 4

abbrev pub invariant-copy_callback-loop-key : goal.invariant-copy_callback-loop-key
invariant-copy_callback-loop-key l = MapCopied (ref_or_doc (named path_item_object) path_item_doc) l.callback.entries l.key-iterator l.copy.entries

abbrev pub invariant-copy_callback_map-loop-key : goal.invariant-copy_callback_map-loop-key
invariant-copy_callback_map-loop-key l = MapCopied (ref_or_doc callback callback_doc) l.callbacks.entries l.key-iterator l.copy.entries

abbrev pub invariant-copy_operation_map-loop-key : goal.invariant-copy_operation_map-loop-key
invariant-copy_operation_map-loop-key l = MapCopied operation_doc l.operations.entries l.key-iterator l.copy.entries
