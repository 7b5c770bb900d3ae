-- For users of the model, and for whoever checks it: which field of a type stands in its document under which name.
-- The page `Members` of utoipa_base says how these theorems are read and cited.
-- A type that holds itself has its fields in `out-NAME x`, as `out-Object o`.
use Rattle.std.specs.Prelude.{◌≡◌, refl, [], ◌∷◌}
use Rattle.utoipa_base.specs.Docs.{flag_doc, whole_doc}
use Rattle.utoipa_base.specs.Flags.{deprecated_doc}
use Rattle.utoipa_base.specs.Kinds.{schema}
use Rattle.utoipa_base.specs.Members.{member, members_in}
use Rattle.utoipa_base.specs.Numbers.{number_doc}
use Rattle.utoipa_base.specs.Refs.{ref_or_doc}
use Rattle.utoipa_base.specs.Views.{boxed, text_of, tree_of, option_of, list_of_docs, map_of_docs}
use Rattle.utoipa_schema_parts.specs.Discriminator.{discriminator_doc}
use Rattle.utoipa_schema_parts.specs.Format.{schema_format_doc}
use Rattle.utoipa_schema_parts.specs.Types.{schema_type_doc}
use Rattle.utoipa_schema_parts.specs.Xml.{xml_doc}
use Rattle.utoipa_schema.specs.Docs.{additional_properties_doc, places_doc, schema_doc, array_items_doc, object_doc, array_doc, one_of_doc, all_of_doc, any_of_doc}
use Rattle.utoipa_schema.specs.declared.types.Object.{Object, out-Object}
use Rattle.utoipa_schema.specs.declared.types.Array.{Array, out-Array}
use Rattle.utoipa_schema.specs.declared.types.OneOf.{OneOf, out-OneOf}
use Rattle.utoipa_schema.specs.declared.types.AllOf.{AllOf, out-AllOf}
use Rattle.utoipa_schema.specs.declared.types.AnyOf.{AnyOf, out-AnyOf}

-- ---- Schema Object: section 4.8.24, by its five tables

-- Schema Object of any type that is not an array
pub object_members : (o : Object) → members_in (object_doc o) ≡
    member "additionalProperties" (option_of (boxed (additional_properties_doc schema_doc)) (out-Object o).additional_properties)
    ∷ member "contentEncoding" (text_of (out-Object o).content_encoding)
    ∷ member "contentMediaType" (text_of (out-Object o).content_media_type)
    ∷ member "contentSchema" (option_of (boxed (ref_or_doc schema schema_doc)) (out-Object o).content_schema)
    ∷ member "default" (option_of tree_of (out-Object o).default)
    ∷ member "deprecated" (option_of deprecated_doc (out-Object o).deprecated)
    ∷ member "description" (option_of text_of (out-Object o).description)
    ∷ member "enum" (option_of (list_of_docs tree_of) (out-Object o).enum_values)
    ∷ member "example" (option_of tree_of (out-Object o).example)
    ∷ member "examples" (list_of_docs tree_of (out-Object o).examples)
    ∷ member "exclusiveMaximum" (option_of number_doc (out-Object o).exclusive_maximum)
    ∷ member "exclusiveMinimum" (option_of number_doc (out-Object o).exclusive_minimum)
    ∷ member "format" (option_of schema_format_doc (out-Object o).format)
    ∷ member "maxLength" (option_of whole_doc (out-Object o).max_length)
    ∷ member "maxProperties" (option_of whole_doc (out-Object o).max_properties)
    ∷ member "maximum" (option_of number_doc (out-Object o).maximum)
    ∷ member "minLength" (option_of whole_doc (out-Object o).min_length)
    ∷ member "minProperties" (option_of whole_doc (out-Object o).min_properties)
    ∷ member "minimum" (option_of number_doc (out-Object o).minimum)
    ∷ member "multipleOf" (option_of number_doc (out-Object o).multiple_of)
    ∷ member "pattern" (option_of text_of (out-Object o).pattern)
    ∷ member "properties" (map_of_docs (ref_or_doc schema schema_doc) (out-Object o).properties)
    ∷ member "propertyNames" (option_of (boxed schema_doc) (out-Object o).property_names)
    ∷ member "readOnly" (option_of flag_doc (out-Object o).read_only)
    ∷ member "required" (list_of_docs text_of (out-Object o).required)
    ∷ member "title" (option_of text_of (out-Object o).title)
    ∷ member "type" (schema_type_doc (out-Object o).schema_type)
    ∷ member "writeOnly" (option_of flag_doc (out-Object o).write_only)
    ∷ member "xml" (option_of xml_doc (out-Object o).xml) ∷ []
object_members o = refl

-- Schema Object of an array
pub array_members : (a : Array) → members_in (array_doc a) ≡
    member "contentEncoding" (text_of (out-Array a).content_encoding)
    ∷ member "contentMediaType" (text_of (out-Array a).content_media_type)
    ∷ member "contentSchema" (option_of (boxed (ref_or_doc schema schema_doc)) (out-Array a).content_schema)
    ∷ member "default" (option_of tree_of (out-Array a).default)
    ∷ member "deprecated" (option_of deprecated_doc (out-Array a).deprecated)
    ∷ member "description" (option_of text_of (out-Array a).description)
    ∷ member "example" (option_of tree_of (out-Array a).example)
    ∷ member "examples" (list_of_docs tree_of (out-Array a).examples)
    ∷ member "items" (array_items_doc (out-Array a).items)
    ∷ member "maxItems" (option_of whole_doc (out-Array a).max_items)
    ∷ member "minItems" (option_of whole_doc (out-Array a).min_items)
    ∷ member "prefixItems" (list_of_docs schema_doc (out-Array a).prefix_items)
    ∷ member "title" (option_of text_of (out-Array a).title)
    ∷ member "type" (schema_type_doc (out-Array a).schema_type)
    ∷ member "uniqueItems" (flag_doc (out-Array a).unique_items)
    ∷ member "xml" (option_of xml_doc (out-Array a).xml) ∷ []
array_members a = refl

-- Schema Object with `oneOf`
pub one_of_members : (o : OneOf) → members_in (one_of_doc o) ≡
    member "default" (option_of tree_of (out-OneOf o).default)
    ∷ member "description" (option_of text_of (out-OneOf o).description)
    ∷ member "discriminator" (option_of discriminator_doc (out-OneOf o).discriminator)
    ∷ member "example" (option_of tree_of (out-OneOf o).example)
    ∷ member "examples" (list_of_docs tree_of (out-OneOf o).examples)
    ∷ member "oneOf" (places_doc schema_doc (out-OneOf o).items)
    ∷ member "readOnly" (option_of flag_doc (out-OneOf o).read_only)
    ∷ member "title" (option_of text_of (out-OneOf o).title)
    ∷ member "type" (schema_type_doc (out-OneOf o).schema_type)
    ∷ member "writeOnly" (option_of flag_doc (out-OneOf o).write_only) ∷ []
one_of_members o = refl

-- Schema Object with `allOf`
pub all_of_members : (o : AllOf) → members_in (all_of_doc o) ≡
    member "allOf" (places_doc schema_doc (out-AllOf o).items)
    ∷ member "default" (option_of tree_of (out-AllOf o).default)
    ∷ member "description" (option_of text_of (out-AllOf o).description)
    ∷ member "discriminator" (option_of discriminator_doc (out-AllOf o).discriminator)
    ∷ member "example" (option_of tree_of (out-AllOf o).example)
    ∷ member "examples" (list_of_docs tree_of (out-AllOf o).examples)
    ∷ member "title" (option_of text_of (out-AllOf o).title)
    ∷ member "type" (schema_type_doc (out-AllOf o).schema_type) ∷ []
all_of_members o = refl

-- Schema Object with `anyOf`
pub any_of_members : (o : AnyOf) → members_in (any_of_doc o) ≡
    member "anyOf" (places_doc schema_doc (out-AnyOf o).items)
    ∷ member "default" (option_of tree_of (out-AnyOf o).default)
    ∷ member "description" (option_of text_of (out-AnyOf o).description)
    ∷ member "discriminator" (option_of discriminator_doc (out-AnyOf o).discriminator)
    ∷ member "example" (option_of tree_of (out-AnyOf o).example)
    ∷ member "examples" (list_of_docs tree_of (out-AnyOf o).examples)
    ∷ member "type" (schema_type_doc (out-AnyOf o).schema_type) ∷ []
any_of_members o = refl
