-- A path item whose missing operations were filled in.
use Rattle.std.proofs.Common.{◌≡◌, ℕ, List, [], ◌∷◌, refl, ap, codes, string_cmp}
use Rattle.std.specs.Option.{option_or}
use Rattle.std.specs.BTreeMap.{IsOrdered, get_by_text}
use Rattle.utoipa_base.specs.Docs.{map_doc, entries_of_list}
use Rattle.utoipa_base.specs.Views.{pairs_of}
use Rattle.utoipa_base.proofs.TableParts.{same_field}
use Rattle.utoipa_merging.specs.Merged.{IsInOrder, IsItemMerged}
use Rattle.utoipa_merging.specs.Slots.{field_at, rest_docs, base, operation, additional, get_method, put_method, post_method, delete_method, options_method, head_method, patch_method, trace_method, query_method}
use Rattle.utoipa_merging.proofs.Filled.{filled_field, filled_map}
use Rattle.utoipa_merging.proofs.MapViews.{in_order-map, ordered-map}
use Rattle.utoipa_path.specs.Builders.{Operations, PathItemFields}
use Rattle.utoipa_path.specs.Docs.{operation_doc, operations_of, path_item_table, path_item_layer}
use Rattle.utoipa_path.specs.Methods.{filled}

-- each operation is that of the first item, or else that of the second, and all else is the first's
pub filled_item : (i j : PathItemFields) (more : Operations) → ((name : List ℕ) → get_by_text more name ≡ option_or (get_by_text i.additional_operations name) (get_by_text j.additional_operations name))
    → IsItemMerged (path_item_layer operation_doc i ∷ path_item_layer operation_doc j ∷ []) (path_item_layer operation_doc (filled (record i { additional_operations = more }) j))
filled_item i j more names base = refl
filled_item i j more names (operation get_method) = filled_field operation_doc (option_or i.get j.get) i.get j.get refl
filled_item i j more names (operation put_method) = filled_field operation_doc (option_or i.put j.put) i.put j.put refl
filled_item i j more names (operation post_method) = filled_field operation_doc (option_or i.post j.post) i.post j.post refl
filled_item i j more names (operation delete_method) = filled_field operation_doc (option_or i.delete j.delete) i.delete j.delete refl
filled_item i j more names (operation options_method) = filled_field operation_doc (option_or i.options j.options) i.options j.options refl
filled_item i j more names (operation head_method) = filled_field operation_doc (option_or i.head j.head) i.head j.head refl
filled_item i j more names (operation patch_method) = filled_field operation_doc (option_or i.patch j.patch) i.patch j.patch refl
filled_item i j more names (operation trace_method) = filled_field operation_doc (option_or i.trace j.trace) i.trace j.trace refl
filled_item i j more names (operation query_method) = filled_field operation_doc (option_or i.query j.query) i.query j.query refl
filled_item i j more names (additional name) = filled_map operation_doc more i.additional_operations j.additional_operations names name

-- the same additional operations make the same document
pub same_additional : (i : PathItemFields) (more : Operations) → more.entries ≡ i.additional_operations.entries → path_item_layer operation_doc (record i { additional_operations = more }) ≡ path_item_layer operation_doc i
same_additional i more is =
    ap (λ ds. path_item_table ds i)
    (same_field _ _ (rest_docs (operations_of operation_doc i)) (rest_docs (operations_of operation_doc i)) (ap (λ es. map_doc (entries_of_list (pairs_of operation_doc es))) is) refl)

-- the additional operations stand in order where they did
pub additional_in_order : (i j : PathItemFields) (more : Operations) → (IsOrdered string_cmp i.additional_operations → IsOrdered string_cmp more)
    → IsInOrder (field_at (codes "additionalOperations") (path_item_layer operation_doc i)) → IsInOrder (field_at (codes "additionalOperations") (path_item_layer operation_doc (filled (record i { additional_operations = more }) j)))
additional_in_order i j more keeps h = in_order-map operation_doc more (keeps (ordered-map operation_doc i.additional_operations h))
