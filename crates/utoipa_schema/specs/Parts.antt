-- The members of schemas that hold no schema, in parts: their rows, their documents, and the fields of schemas that they are.
use Rattle.std.specs.Prelude.{◌≡◌, ℕ, List, take, drop, Option, option_map, String, Vec}
use Rattle.std.specs.declared.alloc.Global.{Global}
use Rattle.serde_json.specs.declared.value.Value.{Value}
use Rattle.utoipa_base.specs.Docs.{flag_doc, whole_doc, Docs, no_docs, doc}
use Rattle.utoipa_base.specs.Extensions.{extensions_view}
use Rattle.utoipa_base.specs.Flags.{deprecated_doc}
use Rattle.utoipa_base.specs.Kinds.{ObjectType, one_of_schema, array_schema, object_schema, text, Row}
use Rattle.utoipa_base.specs.Numbers.{number_doc}
use Rattle.utoipa_base.specs.Tables.{table}
use Rattle.utoipa_base.specs.Views.{text_of, tree_of, option_of, list_of_docs}
use Rattle.utoipa_schema_parts.specs.Xml.{xml_doc}
use Rattle.utoipa_schema_parts.specs.Discriminator.{discriminator_doc}
use Rattle.utoipa_schema_parts.specs.Format.{schema_format_doc}
use Rattle.utoipa_schema_parts.specs.Types.{schema_type_doc}
use Rattle.utoipa_schema_parts.specs.declared.discriminator.Discriminator.{Discriminator}
use Rattle.utoipa_schema.specs.declared.types.Array.{Array}
use Rattle.utoipa_schema.specs.declared.types.Object.{Object}
use Rattle.utoipa_schema.specs.declared.types.OneOf.{OneOf}
use Rattle.utoipa_schema.specs.declared.without_schemas.combination.Combination.{Combination}
use Rattle.utoipa_schema.specs.declared.without_schemas.content.TextContent.{TextContent}
use Rattle.utoipa_schema.specs.declared.without_schemas.object.ObjectParts.{ObjectParts}
use Rattle.utoipa_schema.specs.declared.without_schemas.object.ObjectAnnotations.{ObjectAnnotations}
use Rattle.utoipa_schema.specs.declared.without_schemas.object.GreatestLimits.{GreatestLimits}
use Rattle.utoipa_schema.specs.declared.without_schemas.object.LeastLimits.{LeastLimits}
use Rattle.utoipa_schema.specs.declared.without_schemas.object.ObjectEnd.{ObjectEnd}
use Rattle.utoipa_schema.specs.declared.without_schemas.array.ArrayAnnotations.{ArrayAnnotations}
use Rattle.utoipa_schema.specs.declared.without_schemas.array.ItemLimits.{ItemLimits}
use Rattle.utoipa_schema.specs.declared.without_schemas.array.ArrayEnd.{ArrayEnd}

-- some rows of a table, by how many stand before them and how many they are
abbrev pub rows_at : ObjectType → ℕ → ℕ → List Row
rows_at n before count = take count (drop before (table n))

-- ---- a combination's members that all three have, which stand together

-- the rows
abbrev pub combination_rows : List Row
combination_rows = rows_at one_of_schema 0 5

-- the documents of the fields, by the rows
abbrev pub combination_docs : Combination → Docs
combination_docs c =
    doc (option_of tree_of c.default)
    (doc (option_of text_of c.description)
    (doc (option_of discriminator_doc c.discriminator)
    (doc (option_of tree_of c.example)
    (doc (list_of_docs tree_of c.examples) no_docs))))

-- a combination's members, one by one
abbrev pub combination_of : Option (String Global) → Option Value → Option Value → Vec Value Global → Option Discriminator → Combination
combination_of description default example examples discriminator = record {
  description = description;
  default = default;
  example = example;
  examples = examples;
  discriminator = discriminator;
}

-- those of a schema with `oneOf`
abbrev pub combination_of_one_of : OneOf → Combination
combination_of_one_of s = combination_of s.description s.default s.example s.examples s.discriminator

-- ---- what a text holds, of an array or an object, but for `contentSchema`

-- the rows
abbrev pub text_content_rows : List Row
text_content_rows = rows_at array_schema 0 2

-- the documents of the fields, by the rows
abbrev pub text_content_docs : TextContent → Docs
text_content_docs c =
    doc (text_of c.content_encoding)
    (doc (text_of c.content_media_type) no_docs)

-- the members, one by one
abbrev pub text_content_of : String Global → String Global → TextContent
text_content_of encoding media_type = record { content_encoding = encoding; content_media_type = media_type }

-- those of an array
abbrev pub content_of_array : Array → TextContent
content_of_array s = text_content_of s.content_encoding s.content_media_type

-- those of an object
abbrev pub content_of_object : Object → TextContent
content_of_object s = text_content_of s.content_encoding s.content_media_type

-- ---- an object's members from `default` to `examples`

-- the rows
abbrev pub object_annotation_rows : List Row
object_annotation_rows = rows_at object_schema 4 6

-- the documents of the fields, by the rows
abbrev pub object_annotation_docs : ObjectAnnotations → Docs
object_annotation_docs a =
    doc (option_of tree_of a.default)
    (doc (option_of deprecated_doc a.deprecated)
    (doc (option_of text_of a.description)
    (doc (option_of (list_of_docs tree_of) a.enum_values)
    (doc (option_of tree_of a.example)
    (doc (list_of_docs tree_of a.examples) no_docs)))))

-- those of an object
abbrev pub annotations_of_object : Object → ObjectAnnotations
annotations_of_object s = record {
  default = s.default;
  deprecated = s.deprecated;
  description = s.description;
  enum_values = s.enum_values;
  example = s.example;
  examples = s.examples;
}

-- ---- an object's members from `exclusiveMaximum` to `maximum`

-- the rows
abbrev pub greatest_limit_rows : List Row
greatest_limit_rows = rows_at object_schema 10 6

-- the documents of the fields, by the rows
abbrev pub greatest_limit_docs : GreatestLimits → Docs
greatest_limit_docs l =
    doc (option_of number_doc l.exclusive_maximum)
    (doc (option_of number_doc l.exclusive_minimum)
    (doc (option_of schema_format_doc l.format)
    (doc (option_of whole_doc l.max_length)
    (doc (option_of whole_doc l.max_properties)
    (doc (option_of number_doc l.maximum) no_docs)))))

-- those of an object
abbrev pub greatest_limits_of_object : Object → GreatestLimits
greatest_limits_of_object s = record {
  exclusive_maximum = s.exclusive_maximum;
  exclusive_minimum = s.exclusive_minimum;
  format = s.format;
  max_length = s.max_length;
  max_properties = s.max_properties;
  maximum = s.maximum;
}

-- ---- an object's members from `minLength` to `pattern`

-- the rows
abbrev pub least_limit_rows : List Row
least_limit_rows = rows_at object_schema 16 5

-- the documents of the fields, by the rows
abbrev pub least_limit_docs : LeastLimits → Docs
least_limit_docs l =
    doc (option_of whole_doc l.min_length)
    (doc (option_of whole_doc l.min_properties)
    (doc (option_of number_doc l.minimum)
    (doc (option_of number_doc l.multiple_of)
    (doc (option_of text_of l.pattern) no_docs))))

-- those of an object
abbrev pub least_limits_of_object : Object → LeastLimits
least_limits_of_object s = record {
  min_length = s.min_length;
  min_properties = s.min_properties;
  minimum = s.minimum;
  multiple_of = s.multiple_of;
  pattern = s.pattern;
}

-- ---- an object's members from `readOnly` on

-- the rows
abbrev pub object_end_rows : List Row
object_end_rows = rows_at object_schema 23 6

-- the documents of the fields, by the rows
abbrev pub object_end_docs : ObjectEnd → Docs
object_end_docs e =
    doc (option_of flag_doc e.read_only)
    (doc (list_of_docs text_of e.required)
    (doc (option_of text_of e.title)
    (doc (schema_type_doc e.schema_type)
    (doc (option_of flag_doc e.write_only)
    (doc (option_of xml_doc e.xml) no_docs)))))

-- those of an object
abbrev pub end_of_object : Object → ObjectEnd
end_of_object s = record {
  read_only = s.read_only;
  required = s.required;
  title = s.title;
  schema_type = s.schema_type;
  write_only = s.write_only;
  xml = s.xml;
}

-- ---- the parts of an object together

-- the parts stand for the same as those of an object
abbrev pub IsCopyOfParts : Object → ObjectParts → Type 0
IsCopyOfParts s p =
    (text_content_docs p.content ≡ text_content_docs (content_of_object s))
    × (object_annotation_docs p.annotations ≡ object_annotation_docs (annotations_of_object s))
    × (greatest_limit_docs p.greatest ≡ greatest_limit_docs (greatest_limits_of_object s))
    × (least_limit_docs p.least ≡ least_limit_docs (least_limits_of_object s))
    × (object_end_docs p.last ≡ object_end_docs (end_of_object s))
    × (option_map extensions_view p.extensions ≡ option_map extensions_view s.extensions)

-- ---- an array's members from `default` to `examples`

-- the rows
abbrev pub array_annotation_rows : List Row
array_annotation_rows = rows_at array_schema 3 5

-- the documents of the fields, by the rows
abbrev pub array_annotation_docs : ArrayAnnotations → Docs
array_annotation_docs a =
    doc (option_of tree_of a.default)
    (doc (option_of deprecated_doc a.deprecated)
    (doc (option_of text_of a.description)
    (doc (option_of tree_of a.example)
    (doc (list_of_docs tree_of a.examples) no_docs))))

-- those of an array
abbrev pub annotations_of_array : Array → ArrayAnnotations
annotations_of_array s = record {
  default = s.default;
  deprecated = s.deprecated;
  description = s.description;
  example = s.example;
  examples = s.examples;
}

-- ---- an array's members that limit its items

-- the rows
abbrev pub item_limit_rows : List Row
item_limit_rows = rows_at array_schema 9 2

-- the documents of the fields, by the rows
abbrev pub item_limit_docs : ItemLimits → Docs
item_limit_docs l =
    doc (option_of whole_doc l.max_items)
    (doc (option_of whole_doc l.min_items) no_docs)

-- those of an array
abbrev pub item_limits_of_array : Array → ItemLimits
item_limits_of_array s = record {
  max_items = s.max_items;
  min_items = s.min_items;
}

-- ---- an array's members from `title` on

-- the rows
abbrev pub array_end_rows : List Row
array_end_rows = rows_at array_schema 12 4

-- the documents of the fields, by the rows
abbrev pub array_end_docs : ArrayEnd → Docs
array_end_docs e =
    doc (option_of text_of e.title)
    (doc (schema_type_doc e.schema_type)
    (doc (flag_doc e.unique_items)
    (doc (option_of xml_doc e.xml) no_docs)))

-- those of an array
abbrev pub end_of_array : Array → ArrayEnd
end_of_array s = record {
  title = s.title;
  schema_type = s.schema_type;
  unique_items = s.unique_items;
  xml = s.xml;
}
