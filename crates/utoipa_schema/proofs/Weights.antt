-- What a schema holds is lighter than its table.
use Rattle.std.proofs.Common.{◌<◌, arith}
use Rattle.utoipa_base.specs.Kinds.{schema}
use Rattle.utoipa_base.specs.Refs.{ref_or_doc}
use Rattle.utoipa_base.specs.Views.{boxed, option_of, list_of_docs, map_of_docs}
use Rattle.utoipa_base.proofs.Weights.{weight, docs_weight}
use Rattle.utoipa_schema.specs.Choice.{content_schema_doc}
use Rattle.utoipa_schema.specs.Docs.{places_doc, additional_properties_doc, schema_doc, array_items_doc, one_of_doc, all_of_doc, any_of_doc, array_doc, object_doc}
use Rattle.utoipa_schema.specs.declared.types.Object.{Object}
use Rattle.utoipa_schema.specs.declared.types.Array.{Array}
use Rattle.utoipa_schema.specs.declared.types.OneOf.{OneOf}
use Rattle.utoipa_schema.specs.declared.types.AllOf.{AllOf}
use Rattle.utoipa_schema.specs.declared.types.AnyOf.{AnyOf}

pub lighter_one_of : (o : OneOf) → weight (places_doc schema_doc o.items) < weight (one_of_doc o)
unfolding weight docs_weight
lighter_one_of o = omega arith

pub lighter_all_of : (o : AllOf) → weight (places_doc schema_doc o.items) < weight (all_of_doc o)
unfolding weight docs_weight
lighter_all_of o = omega arith

pub lighter_any_of : (o : AnyOf) → weight (places_doc schema_doc o.items) < weight (any_of_doc o)
unfolding weight docs_weight
lighter_any_of o = omega arith

pub lighter_array : (a : Array) → (weight (array_items_doc a.items) < weight (array_doc a)) × (weight (list_of_docs schema_doc a.prefix_items) < weight (array_doc a)) × (weight (content_schema_doc a.content_schema) < weight (array_doc a))
unfolding weight docs_weight
lighter_array a = (omega arith, omega arith, omega arith)

pub lighter_object : (o : Object) → (weight (map_of_docs (ref_or_doc schema schema_doc) o.properties) < weight (object_doc o))
    × (weight (option_of (boxed (additional_properties_doc schema_doc)) o.additional_properties) < weight (object_doc o))
    × (weight (option_of (boxed schema_doc) o.property_names) < weight (object_doc o))
    × (weight (content_schema_doc o.content_schema) < weight (object_doc o))
unfolding weight docs_weight
lighter_object o = (omega arith, omega arith, omega arith, omega arith)
