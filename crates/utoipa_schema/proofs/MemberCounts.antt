-- A schema counts the schemas in its members that hold any.
use Rattle.std.proofs.Common.{◌≡◌, ◌+◌, arith}
use Rattle.utoipa_base.specs.Kinds.{one_of_schema, all_of_schema, any_of_schema, array_schema, object_schema, schema}
use Rattle.utoipa_base.specs.Refs.{ref_or_doc}
use Rattle.utoipa_base.specs.Values.{schema_count}
use Rattle.utoipa_base.specs.Views.{boxed, option_of, list_of_docs, map_of_docs}
use Rattle.utoipa_schema.specs.Choice.{content_schema_doc}
use Rattle.utoipa_schema.specs.Docs.{places_doc, additional_properties_doc, schema_doc, array_items_doc, one_of_doc, all_of_doc, any_of_doc, array_doc, object_doc}
use Rattle.utoipa_schema.specs.OfKind.{one_of_of_kind, all_of_of_kind, any_of_of_kind, array_of_kind, object_of_kind}
use Rattle.utoipa_schema.specs.declared.types.Object.{Object}
use Rattle.utoipa_schema.specs.declared.types.Array.{Array}
use Rattle.utoipa_schema.specs.declared.types.OneOf.{OneOf}
use Rattle.utoipa_schema.specs.declared.types.AllOf.{AllOf}
use Rattle.utoipa_schema.specs.declared.types.AnyOf.{AnyOf}
use Rattle.utoipa_base.proofs.TableCounts.{table_counts}

pub one_of_counts : (o : OneOf) → schema_count (one_of_doc o) ≡ schema_count (places_doc schema_doc o.items)
one_of_counts o = let all = table_counts one_of_schema _ _ (one_of_of_kind o) in omega (arith, all)

pub all_of_counts : (o : AllOf) → schema_count (all_of_doc o) ≡ schema_count (places_doc schema_doc o.items)
all_of_counts o = let all = table_counts all_of_schema _ _ (all_of_of_kind o) in omega (arith, all)

pub any_of_counts : (o : AnyOf) → schema_count (any_of_doc o) ≡ schema_count (places_doc schema_doc o.items)
any_of_counts o = let all = table_counts any_of_schema _ _ (any_of_of_kind o) in omega (arith, all)

pub array_counts : (a : Array) → schema_count (array_doc a) ≡ schema_count (array_items_doc a.items) + schema_count (list_of_docs schema_doc a.prefix_items) + schema_count (content_schema_doc a.content_schema)
array_counts a = let all = table_counts array_schema _ _ (array_of_kind a) in omega (arith, all)

pub object_counts : (o : Object) → schema_count (object_doc o) ≡ schema_count (map_of_docs (ref_or_doc schema schema_doc) o.properties) + schema_count (option_of (boxed (additional_properties_doc schema_doc)) o.additional_properties) + schema_count (option_of (boxed schema_doc) o.property_names) + schema_count (content_schema_doc o.content_schema)
object_counts o = let all = table_counts object_schema _ _ (object_of_kind o) in omega (arith, all)
