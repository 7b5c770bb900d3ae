-- Fields of schemas that are always unambiguous.
use Rattle.std.proofs.Common.{◌≡◌, true, Option, arith, ◌∙◌, string_bytes}
use Rattle.utoipa_base.specs.Views.{option_of, list_of_docs}
use Rattle.utoipa_schema_parts.specs.Format.{schema_format_doc}
use Rattle.utoipa_schema_parts.specs.Types.{type_word_doc, schema_type_doc}
use Rattle.utoipa_schema_parts.specs.Xml.{xml_doc}
use Rattle.utoipa_schema_parts.specs.declared.format.SchemaFormat.{SchemaFormat}
use Rattle.utoipa_schema_parts.specs.declared.format.SchemaFormat.TheVariants as formats
use Rattle.utoipa_schema_parts.specs.declared.types.SchemaType.{SchemaType}
use Rattle.utoipa_schema_parts.specs.declared.types.SchemaType.TheVariants as types
use Rattle.utoipa_schema_parts.specs.declared.xml.Xml.{Xml}
use Rattle.utoipa_base.specs.Unambiguous.{is_unambiguous}
use Rattle.utoipa_base.proofs.UnambiguousParts.{by_parts, unambiguous-word, unambiguous-custom, unambiguous-types, unambiguous-any_value, list-always, option-always, option-flag, option-text}

pub schema_type-always : (t : SchemaType) → is_unambiguous (schema_type_doc t) ≡ true
schema_type-always (types.Single w) = unambiguous-word _
schema_type-always (types.Array ws) = unambiguous-types _ ∙ list-always type_word_doc (λ w. unambiguous-word _) ws
schema_type-always types.AnyValue = unambiguous-any_value

format-always : (f : SchemaFormat) → is_unambiguous (schema_format_doc f) ≡ true
format-always (formats.KnownFormat f) = unambiguous-word _
format-always (formats.Custom s) = unambiguous-custom (string_bytes s)

pub option-format : (o : Option SchemaFormat) → is_unambiguous (option_of schema_format_doc o) ≡ true
option-format = option-always schema_format_doc format-always

xml-always : (x : Xml) → is_unambiguous (xml_doc x) ≡ true
xml-always x =
    let attribute = option-flag x.attribute in
    let name = option-text x.name in
    let namespace = option-text x.namespace in
    let node_type = option-text x.node_type in
    let prefix = option-text x.prefix in
    let wrapped = option-flag x.wrapped in
    grind (arith, by_parts, attribute, name, namespace, node_type, prefix, wrapped)

pub option-xml : (o : Option Xml) → is_unambiguous (option_of xml_doc o) ≡ true
option-xml = option-always xml_doc xml-always

-- documents of schemas, part by part
pub ruleset by_schema_fields = (by_parts, schema_type-always, option-format, option-xml)
