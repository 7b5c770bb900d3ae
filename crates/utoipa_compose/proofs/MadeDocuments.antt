-- The documents of the schemas that are made: of objects, arrays and combinations of which little is said.
use Rattle.std.proofs.Common.{◌≡◌, ◌∙◌, List, Bool, Option, option_map, Box, Global, map, ap}
use Rattle.serde_json.specs.declared.value.Value.{Value}
use Rattle.utoipa_base.specs.Docs.{flag_doc, text_doc, own_doc, whole_doc, list_doc, map_doc, table_doc, no_docs, doc, docs_of, entries_of_list}
use Rattle.utoipa_base.specs.Docs as docs
use Rattle.utoipa_base.specs.Extensions.{extensions_view}
use Rattle.utoipa_base.specs.Flags.{deprecated_doc}
use Rattle.utoipa_base.specs.Kinds.{array_schema, object_schema, one_of_schema}
use Rattle.utoipa_base.specs.Numbers.{number_doc}
use Rattle.utoipa_base.specs.Views.{boxed, list_of_docs, option_of, pairs_of, text_of, tree_of}
use Rattle.utoipa_base.specs.declared.number.Number.{Number}
use Rattle.utoipa_base.specs.declared.refs.RefOr.{RefOr}
use Rattle.utoipa_schema_parts.specs.Discriminator.{discriminator_doc}
use Rattle.utoipa_schema_parts.specs.Format.{schema_format_doc}
use Rattle.utoipa_schema_parts.specs.Types.{schema_type_doc}
use Rattle.utoipa_schema_parts.specs.Xml.{xml_doc}
use Rattle.utoipa_schema_parts.specs.declared.format.SchemaFormat.{SchemaFormat}
use Rattle.utoipa_schema_parts.specs.declared.types.SchemaType.{SchemaType}
use Rattle.utoipa_schema.specs.Builders.{object_place, array_place, one_of_place, one_array, IsEmptyObject, IsArrayOf, IsEmptyOneOf, Items}
use Rattle.utoipa_schema.specs.Docs.{schema_doc, array_items_doc, additional_properties_doc}
use Rattle.utoipa_schema.specs.Folds.{schema-Array, schema-Object, schema-OneOf, items-RefOrSchema}
use Rattle.utoipa_schema.specs.declared.types.AdditionalProperties.{AdditionalProperties}
use Rattle.utoipa_schema.specs.declared.types.Array.{Array}
use Rattle.utoipa_schema.specs.declared.types.Object.{Object}
use Rattle.utoipa_schema.specs.declared.types.OneOf.{OneOf}
use Rattle.utoipa_schema.specs.declared.types.Schema.{Schema}
use Rattle.utoipa_compose.specs.Compositions.{place_doc}
use Rattle.utoipa_compose.specs.Made.{object_of, array_of, one_of}

-- an object of which nothing was said, with these members set
pub object_with : (t : SchemaType) (o : Object) → IsEmptyObject t o → (f : Option SchemaFormat) (d : Option Value) (a : Option (Box (AdditionalProperties Schema) Global)) (k : Option (Box Schema Global)) (m : Option Number)
    → place_doc (object_place (record o { format = f; default = d; additional_properties = a; property_names = k; minimum = m }))
    ≡ object_of (schema_type_doc t) (option_of schema_format_doc f) (option_of tree_of d) (option_of (boxed (additional_properties_doc schema_doc)) a) (option_of (boxed schema_doc) k) (option_of number_doc m)
object_with t o (types, title, format, description, default, enums, required, properties, additional, names, deprecated, example, examples, write_only, read_only, xml, multiple, maximum, minimum, exclusive_maximum, exclusive_minimum, max_length, min_length, pattern, max_properties, min_properties, encoding, media_type, content, extensions) f d a k m =
    ap own_doc (schema-Object (record o { format = f; default = d; additional_properties = a; property_names = k; minimum = m })) ∙
    (λ i. own_doc (docs.schema_doc (table_doc object_schema
    (doc (option_of (boxed (additional_properties_doc schema_doc)) a)
    (doc (text_doc (encoding i))
    (doc (text_doc (media_type i))
    (doc (option_of (boxed place_doc) (content i))
    (doc (option_of tree_of d)
    (doc (option_of deprecated_doc (deprecated i))
    (doc (option_of text_of (description i))
    (doc (option_of (list_of_docs tree_of) (enums i))
    (doc (option_of tree_of (example i))
    (doc (list_doc (docs_of (map tree_of (examples i))))
    (doc (option_of number_doc (exclusive_maximum i))
    (doc (option_of number_doc (exclusive_minimum i))
    (doc (option_of schema_format_doc f)
    (doc (option_of whole_doc (max_length i))
    (doc (option_of whole_doc (max_properties i))
    (doc (option_of number_doc (maximum i))
    (doc (option_of whole_doc (min_length i))
    (doc (option_of whole_doc (min_properties i))
    (doc (option_of number_doc m)
    (doc (option_of number_doc (multiple i))
    (doc (option_of text_of (pattern i))
    (doc (map_doc (entries_of_list (pairs_of place_doc (properties i))))
    (doc (option_of (boxed schema_doc) k)
    (doc (option_of flag_doc (read_only i))
    (doc (list_doc (docs_of (map text_of (required i))))
    (doc (option_of text_of (title i))
    (doc (schema_type_doc (types i))
    (doc (option_of flag_doc (write_only i))
    (doc (option_of xml_doc (xml i)) no_docs)))))))))))))))))))))))))))))
    (option_map extensions_view (extensions i)))))

-- an integer, of this format and with this least value
pub integer_made : (t : SchemaType) (o : Object) → IsEmptyObject t o → (f : Option SchemaFormat) (m : Option Number) → place_doc (object_place (record o { format = f; minimum = m }))
    ≡ object_of (schema_type_doc t) (option_of schema_format_doc f) docs.none_doc docs.none_doc docs.none_doc (option_of number_doc m)
integer_made t o e f m =
    object_with t o e f o.default o.additional_properties o.property_names m ∙
    (λ i. object_of (schema_type_doc t) (option_of schema_format_doc f) (option_of tree_of (e.4 i)) (option_of (boxed (additional_properties_doc schema_doc)) (e.8 i)) (option_of (boxed schema_doc) (e.9 i)) (option_of number_doc m))

-- a value that may be anything, with this default
pub default_made : (t : SchemaType) (o : Object) → IsEmptyObject t o → (d : Option Value) → place_doc (object_place (record o { default = d }))
    ≡ object_of (schema_type_doc t) docs.none_doc (option_of tree_of d) docs.none_doc docs.none_doc docs.none_doc
default_made t o e d =
    object_with t o e o.format d o.additional_properties o.property_names o.minimum ∙
    (λ i. object_of (schema_type_doc t) (option_of schema_format_doc (e.2 i)) (option_of tree_of d) (option_of (boxed (additional_properties_doc schema_doc)) (e.8 i)) (option_of (boxed schema_doc) (e.9 i)) (option_of number_doc (e.18 i)))

-- a map with these schemas of its values and its keys
pub map_made : (t : SchemaType) (o : Object) → IsEmptyObject t o → (a : Option (Box (AdditionalProperties Schema) Global)) (k : Option (Box Schema Global))
    → place_doc (object_place (record o { additional_properties = a; property_names = k }))
    ≡ object_of (schema_type_doc t) docs.none_doc docs.none_doc (option_of (boxed (additional_properties_doc schema_doc)) a) (option_of (boxed schema_doc) k) docs.none_doc
map_made t o e a k =
    object_with t o e o.format o.default a k o.minimum ∙
    (λ i. object_of (schema_type_doc t) (option_of schema_format_doc (e.2 i)) (option_of tree_of (e.4 i)) (option_of (boxed (additional_properties_doc schema_doc)) a) (option_of (boxed schema_doc) k) (option_of number_doc (e.18 i)))

-- an array of which nothing was said but its items, and whether they are unique
pub array_with : (items : RefOr Schema) (a : Array) → IsArrayOf one_array items a → (u : Bool) → place_doc (array_place (record a { unique_items = u })) ≡ array_of (place_doc items) u
array_with items a (boxes, (b, held, is), (types, title, made, prefix, description, deprecated, example, examples, default, max_items, min_items, unique, xml, encoding, media_type, content, extensions)) u =
    ap own_doc (schema-Array (record a { unique_items = u })) ∙
    (λ i. own_doc (docs.schema_doc (table_doc array_schema
    (doc (text_doc (encoding i))
    (doc (text_doc (media_type i))
    (doc (option_of (boxed place_doc) (content i))
    (doc (option_of tree_of (default i))
    (doc (option_of deprecated_doc (deprecated i))
    (doc (option_of text_of (description i))
    (doc (option_of tree_of (example i))
    (doc (list_doc (docs_of (map tree_of (examples i))))
    (doc (items_are i)
    (doc (option_of whole_doc (max_items i))
    (doc (option_of whole_doc (min_items i))
    (doc (list_doc (docs_of (map schema_doc (prefix i))))
    (doc (option_of text_of (title i))
    (doc (schema_type_doc (types i))
    (doc (flag_doc u)
    (doc (option_of xml_doc (xml i)) no_docs))))))))))))))))
    (option_map extensions_view (extensions i)))))
  where
    items_are : array_items_doc a.items ≡ place_doc items
    items_are = ap array_items_doc (made ∙ is) ∙ items-RefOrSchema b ∙ ap place_doc held

-- a combination of which nothing was said, of these schemas
pub one_of_with : (o : OneOf) → IsEmptyOneOf o → (listed : Items) (schemas : List (RefOr Schema)) → listed.items ≡ schemas → place_doc (one_of_place (record o { items = listed })) ≡ one_of (map place_doc schemas)
one_of_with o (items, types, title, description, default, example, examples, discriminator, read_only, write_only, extensions) listed schemas is =
    ap own_doc (schema-OneOf (record o { items = listed })) ∙
    (λ i. own_doc (docs.schema_doc (table_doc one_of_schema
    (doc (option_of tree_of (default i))
    (doc (option_of text_of (description i))
    (doc (option_of discriminator_doc (discriminator i))
    (doc (option_of tree_of (example i))
    (doc (list_doc (docs_of (map tree_of (examples i))))
    (doc (list_doc (docs_of (map place_doc (is i))))
    (doc (option_of flag_doc (read_only i))
    (doc (option_of text_of (title i))
    (doc (schema_type_doc (types i))
    (doc (option_of flag_doc (write_only i)) no_docs))))))))))
    (option_map extensions_view (extensions i)))))
