-- The measures of the functions that copy schemas, and the invariants of their loops.
use Rattle.std.proofs.Common.{◌≡◌, ◌+◌, ◌*◌, take, map}
use Rattle.utoipa_base.specs.Kinds.{schema}
use Rattle.utoipa_base.specs.Refs.{ref_or_doc}
use Rattle.utoipa_base.specs.Views.{boxed, option_of, list_of_docs, map_of_docs}
use Rattle.utoipa_base.proofs.Weights.{weight}
use Rattle.utoipa_base.proofs.WritingMaps.{MapCopied}
use Rattle.utoipa_schema.specs.Choice.{content_schema_doc}
use Rattle.utoipa_schema.specs.Docs.{places_doc, additional_properties_doc, schema_doc, array_items_doc, one_of_doc, all_of_doc, any_of_doc, array_doc, object_doc}
use Rattle.utoipa_schema.proofs.copy.+copy.Given as goal

abbrev pub decreases-clone_schema : goal.decreases-clone_schema
decreases-clone_schema l = 2 * weight (schema_doc l.schema.now) + 0

abbrev pub decreases-clone_ref_or_schema : goal.decreases-clone_ref_or_schema
decreases-clone_ref_or_schema l = 2 * weight (ref_or_doc schema schema_doc l.place.now) + 0

abbrev pub decreases-clone_items : goal.decreases-clone_items
decreases-clone_items l = 2 * weight (array_items_doc l.items.now) + 1

abbrev pub decreases-clone_additional : goal.decreases-clone_additional
decreases-clone_additional l = 2 * weight (additional_properties_doc schema_doc l.additional.now) + 1

abbrev pub decreases-clone_schemas : goal.decreases-clone_schemas
decreases-clone_schemas l = 2 * weight (list_of_docs schema_doc l.schemas.now) + 0

abbrev pub decreases-clone_ref_or_schema_list : goal.decreases-clone_ref_or_schema_list
decreases-clone_ref_or_schema_list l = 2 * weight (places_doc schema_doc l.places.now) + 0

abbrev pub decreases-clone_ref_or_schema_map : goal.decreases-clone_ref_or_schema_map
decreases-clone_ref_or_schema_map l = 2 * weight (map_of_docs (ref_or_doc schema schema_doc) l.properties.now) + 0

abbrev pub decreases-clone_content_schema : goal.decreases-clone_content_schema
decreases-clone_content_schema l = 2 * weight (content_schema_doc l.content.now) + 1

abbrev pub decreases-clone_additional_properties : goal.decreases-clone_additional_properties
decreases-clone_additional_properties l = 2 * weight (option_of (boxed (additional_properties_doc schema_doc)) l.member.now) + 1

abbrev pub decreases-clone_property_names : goal.decreases-clone_property_names
decreases-clone_property_names l = 2 * weight (option_of (boxed schema_doc) l.member.now) + 1

abbrev pub decreases-clone_one_of : goal.decreases-clone_one_of
decreases-clone_one_of l = 2 * weight (one_of_doc l.one_of.now) + 0

abbrev pub decreases-clone_all_of : goal.decreases-clone_all_of
decreases-clone_all_of l = 2 * weight (all_of_doc l.all_of.now) + 0

abbrev pub decreases-clone_any_of : goal.decreases-clone_any_of
decreases-clone_any_of l = 2 * weight (any_of_doc l.any_of.now) + 0

abbrev pub decreases-clone_array : goal.decreases-clone_array
decreases-clone_array l = 2 * weight (array_doc l.array.now) + 0

abbrev pub decreases-clone_object : goal.decreases-clone_object
decreases-clone_object l = 2 * weight (object_doc l.object.now) + 0

abbrev pub invariant-clone_schemas-loop-item : goal.invariant-clone_schemas-loop-item
invariant-clone_schemas-loop-item l = map schema_doc l.list.items ≡ map schema_doc (take l.item-index l.item-items)

abbrev pub invariant-clone_ref_or_schema_list-loop-item : goal.invariant-clone_ref_or_schema_list-loop-item
invariant-clone_ref_or_schema_list-loop-item l = map (ref_or_doc schema schema_doc) l.list.items ≡ map (ref_or_doc schema schema_doc) (take l.item-index l.item-items)

abbrev pub invariant-clone_ref_or_schema_map-loop-key : goal.invariant-clone_ref_or_schema_map-loop-key
invariant-clone_ref_or_schema_map-loop-key l = MapCopied (ref_or_doc schema schema_doc) l.properties.entries l.key-iterator l.map.entries
