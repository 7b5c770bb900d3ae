-- Schemas as documents.
--
-- Schemas hold each other, so their documents are a fold: a layer for each type gives the document of a value by those of the
-- schemas in it, and the fold applies the layers from the innermost schema outwards.
use Rattle.std.specs.Prelude.{false, option_map, Vec}
use Rattle.std.specs.declared.alloc.Global.{Global}
use Rattle.utoipa_base.specs.Docs.{Doc, flag_doc, whole_doc, table_doc, no_docs, doc}
use Rattle.utoipa_base.specs.Docs as docs
use Rattle.utoipa_base.specs.Extensions.{extensions_view}
use Rattle.utoipa_base.specs.Flags.{deprecated_doc}
use Rattle.utoipa_base.specs.Kinds.{schema, one_of_schema, all_of_schema, any_of_schema, array_schema, object_schema}
use Rattle.utoipa_base.specs.Numbers.{number_doc}
use Rattle.utoipa_base.specs.Refs.{ref_or_doc}
use Rattle.utoipa_base.specs.declared.refs.RefOr.{RefOr}
use Rattle.utoipa_base.specs.Views.{boxed, text_of, tree_of, option_of, list_of_docs, map_of_docs}
use Rattle.utoipa_schema_parts.specs.Xml.{xml_doc}
use Rattle.utoipa_schema_parts.specs.Discriminator.{discriminator_doc}
use Rattle.utoipa_schema_parts.specs.Format.{schema_format_doc}
use Rattle.utoipa_schema_parts.specs.Types.{schema_type_doc}
use Rattle.utoipa_schema.specs.declared.types.AdditionalProperties.{AdditionalProperties}
use Rattle.utoipa_schema.specs.declared.types.AdditionalProperties.TheVariants as additional
use Rattle.utoipa_schema.specs.declared.types.ArrayItems.{ArrayItems, ArrayItems-F, fold-ArrayItems}
use Rattle.utoipa_schema.specs.declared.types.Schema.{Schema, Schema-F, fold-Schema}
use Rattle.utoipa_schema.specs.declared.types.Object.{Object, Object-F, out-Object}
use Rattle.utoipa_schema.specs.declared.types.Array.{Array, Array-F, out-Array}
use Rattle.utoipa_schema.specs.declared.types.OneOf.{OneOf, OneOf-F, out-OneOf}
use Rattle.utoipa_schema.specs.declared.types.AllOf.{AllOf, AllOf-F, out-AllOf}
use Rattle.utoipa_schema.specs.declared.types.AnyOf.{AnyOf, AnyOf-F, out-AnyOf}

-- additional properties: a schema or a reference, or whether there may be any
abbrev pub additional_properties_doc : {X : Type 0} → (X → Doc) → AdditionalProperties X → Doc
additional_properties_doc f (additional.RefOr place) = ref_or_doc schema f place
additional_properties_doc f (additional.FreeForm free) = flag_doc free

-- ---- a layer of each type, by the documents of the schemas in it

abbrev pub items_layer : {S A B C D E F : Type 0} → (S → Doc) → ArrayItems-F A S B C D E F → Doc
items_layer f (ArrayItems-F.RefOrSchema place) = boxed (ref_or_doc schema f) place
items_layer f ArrayItems-F.False = flag_doc false

-- a combination's schemas
abbrev pub places_doc : {S : Type 0} → (S → Doc) → Vec (RefOr S) Global → Doc
places_doc f = list_of_docs (ref_or_doc schema f)

abbrev pub one_of_table : {A S B C D E F : Type 0} → Doc → OneOf-F A S B C D E F → Doc
one_of_table items o =
    table_doc one_of_schema
    (doc (option_of tree_of o.default)
    (doc (option_of text_of o.description)
    (doc (option_of discriminator_doc o.discriminator)
    (doc (option_of tree_of o.example)
    (doc (list_of_docs tree_of o.examples)
    (doc items
    (doc (option_of flag_doc o.read_only)
    (doc (option_of text_of o.title)
    (doc (schema_type_doc o.schema_type)
    (doc (option_of flag_doc o.write_only) no_docs))))))))))
    (option_map extensions_view o.extensions)

abbrev pub one_of_layer : {A S B C D E F : Type 0} → (S → Doc) → OneOf-F A S B C D E F → Doc
one_of_layer f o = one_of_table (places_doc f o.items) o

abbrev pub all_of_table : {A S B C D E F : Type 0} → Doc → AllOf-F A S B C D E F → Doc
all_of_table items o =
    table_doc all_of_schema
    (doc items
    (doc (option_of tree_of o.default)
    (doc (option_of text_of o.description)
    (doc (option_of discriminator_doc o.discriminator)
    (doc (option_of tree_of o.example)
    (doc (list_of_docs tree_of o.examples)
    (doc (option_of text_of o.title)
    (doc (schema_type_doc o.schema_type) no_docs))))))))
    (option_map extensions_view o.extensions)

abbrev pub all_of_layer : {A S B C D E F : Type 0} → (S → Doc) → AllOf-F A S B C D E F → Doc
all_of_layer f o = all_of_table (places_doc f o.items) o

abbrev pub any_of_table : {A S B C D E F : Type 0} → Doc → AnyOf-F A S B C D E F → Doc
any_of_table items o =
    table_doc any_of_schema
    (doc items
    (doc (option_of tree_of o.default)
    (doc (option_of text_of o.description)
    (doc (option_of discriminator_doc o.discriminator)
    (doc (option_of tree_of o.example)
    (doc (list_of_docs tree_of o.examples)
    (doc (schema_type_doc o.schema_type) no_docs)))))))
    (option_map extensions_view o.extensions)

abbrev pub any_of_layer : {A S B C D E F : Type 0} → (S → Doc) → AnyOf-F A S B C D E F → Doc
any_of_layer f o = any_of_table (places_doc f o.items) o

-- the table of an array, by the documents of its members that hold schemas
abbrev pub array_table : {A S B C D E F : Type 0} → Doc → Doc → Doc → Array-F A S B C D E F → Doc
array_table items prefix_items content_schema a =
    table_doc array_schema
    (doc (text_of a.content_encoding)
    (doc (text_of a.content_media_type)
    (doc content_schema
    (doc (option_of tree_of a.default)
    (doc (option_of deprecated_doc a.deprecated)
    (doc (option_of text_of a.description)
    (doc (option_of tree_of a.example)
    (doc (list_of_docs tree_of a.examples)
    (doc items
    (doc (option_of whole_doc a.max_items)
    (doc (option_of whole_doc a.min_items)
    (doc prefix_items
    (doc (option_of text_of a.title)
    (doc (schema_type_doc a.schema_type)
    (doc (flag_doc a.unique_items)
    (doc (option_of xml_doc a.xml) no_docs))))))))))))))))
    (option_map extensions_view a.extensions)

abbrev pub array_layer : {A S B C D E F : Type 0} → (A → Doc) → (S → Doc) → Array-F A S B C D E F → Doc
array_layer items f a = array_table (items a.items) (list_of_docs f a.prefix_items) (option_of (boxed (ref_or_doc schema f)) a.content_schema) a

-- the table of an object, by the documents of its members that hold schemas
abbrev pub object_table : {A S B C D E F : Type 0} → Doc → Doc → Doc → Doc → Object-F A S B C D E F → Doc
object_table properties additional_properties property_names content_schema o =
    table_doc object_schema
    (doc additional_properties
    (doc (text_of o.content_encoding)
    (doc (text_of o.content_media_type)
    (doc content_schema
    (doc (option_of tree_of o.default)
    (doc (option_of deprecated_doc o.deprecated)
    (doc (option_of text_of o.description)
    (doc (option_of (list_of_docs tree_of) o.enum_values)
    (doc (option_of tree_of o.example)
    (doc (list_of_docs tree_of o.examples)
    (doc (option_of number_doc o.exclusive_maximum)
    (doc (option_of number_doc o.exclusive_minimum)
    (doc (option_of schema_format_doc o.format)
    (doc (option_of whole_doc o.max_length)
    (doc (option_of whole_doc o.max_properties)
    (doc (option_of number_doc o.maximum)
    (doc (option_of whole_doc o.min_length)
    (doc (option_of whole_doc o.min_properties)
    (doc (option_of number_doc o.minimum)
    (doc (option_of number_doc o.multiple_of)
    (doc (option_of text_of o.pattern)
    (doc properties
    (doc property_names
    (doc (option_of flag_doc o.read_only)
    (doc (list_of_docs text_of o.required)
    (doc (option_of text_of o.title)
    (doc (schema_type_doc o.schema_type)
    (doc (option_of flag_doc o.write_only)
    (doc (option_of xml_doc o.xml) no_docs)))))))))))))))))))))))))))))
    (option_map extensions_view o.extensions)

abbrev pub object_layer : {A S B C D E F : Type 0} → (S → Doc) → Object-F A S B C D E F → Doc
object_layer f o =
    object_table
    (map_of_docs (ref_or_doc schema f) o.properties)
    (option_of (boxed (additional_properties_doc f)) o.additional_properties)
    (option_of (boxed f) o.property_names)
    (option_of (boxed (ref_or_doc schema f)) o.content_schema)
    o

-- a schema is the table of one of its alternatives
abbrev pub schema_layer : {A : Type 0} → Schema-F A A Doc Doc Doc Doc Doc → Doc
schema_layer (Schema-F.Array a) = docs.schema_doc a
schema_layer (Schema-F.Object o) = docs.schema_doc o
schema_layer (Schema-F.OneOf o) = docs.schema_doc o
schema_layer (Schema-F.AllOf o) = docs.schema_doc o
schema_layer (Schema-F.AnyOf o) = docs.schema_doc o

-- ---- the documents

abbrev pub as_is : Doc → Doc
as_is d = d

abbrev pub schema_doc : Schema → Doc
schema_doc = fold-Schema Doc Doc Doc Doc Doc Doc Doc (items_layer as_is) schema_layer (all_of_layer as_is) (any_of_layer as_is) (array_layer as_is as_is) (object_layer as_is) (one_of_layer as_is)

abbrev pub array_items_doc : ArrayItems → Doc
array_items_doc = fold-ArrayItems Doc Doc Doc Doc Doc Doc Doc (items_layer as_is) schema_layer (all_of_layer as_is) (any_of_layer as_is) (array_layer as_is as_is) (object_layer as_is) (one_of_layer as_is)

abbrev pub one_of_doc : OneOf → Doc
one_of_doc o = one_of_layer schema_doc (out-OneOf o)

abbrev pub all_of_doc : AllOf → Doc
all_of_doc o = all_of_layer schema_doc (out-AllOf o)

abbrev pub any_of_doc : AnyOf → Doc
any_of_doc o = any_of_layer schema_doc (out-AnyOf o)

abbrev pub array_doc : Array → Doc
array_doc a = array_layer array_items_doc schema_doc (out-Array a)

abbrev pub object_doc : Object → Doc
object_doc o = object_layer schema_doc (out-Object o)
