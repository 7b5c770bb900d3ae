-- Whether arrays and objects are unambiguous, by their members that hold schemas: the others always are.
use Rattle.std.proofs.Common.{◌≡◌, Bool, true, ◌&&◌, refl, ap, ◌∙◌, option_map, string_bytes}
use Rattle.utoipa_base.specs.Docs.{Doc, Docs, doc}
use Rattle.utoipa_base.specs.Extensions.{extensions_view}
use Rattle.utoipa_base.specs.Kinds.{schema, array_schema, object_schema}
use Rattle.utoipa_base.specs.Refs.{ref_or_doc}
use Rattle.utoipa_base.specs.Unambiguous.{is_unambiguous, are_unambiguous, are_extensions}
use Rattle.utoipa_base.specs.Views.{option_of, boxed, list_of_docs, map_of_docs}
use Rattle.utoipa_base.proofs.UnambiguousParts.{unambiguous-text, unambiguous-flag, unambiguous-table, docs-none, docs-next, option-text, option-flag, option-whole, option-tree, option-number, option-deprecated, option-trees, texts-always, trees-always}
use Rattle.utoipa_schema_parts.proofs.UnambiguousFields.{schema_type-always, option-format, option-xml}
use Rattle.utoipa_schema.specs.Docs.{schema_doc, array_items_doc, additional_properties_doc, array_table, object_table, array_doc, object_doc}
use Rattle.utoipa_schema.proofs.FieldsAsked.{passes_by, is_asked}
use Rattle.utoipa_schema.specs.declared.types.Array.{Array, Array-F, out-Array}
use Rattle.utoipa_schema.specs.declared.types.Object.{Object, Object-F, out-Object}

array_table_parts : {A S B C D E F : Type 0} (items prefix_items content_schema : Doc) (a : Array-F A S B C D E F)
    → is_unambiguous (array_table items prefix_items content_schema a) ≡ ((is_unambiguous content_schema && (is_unambiguous items && (is_unambiguous prefix_items && true))) && are_extensions (option_map extensions_view a.extensions))
array_table_parts items prefix_items content_schema a = unambiguous-table array_schema _ _ ∙ ap (λ x. x && are_extensions (option_map extensions_view a.extensions))
    (passes_by _ _ (unambiguous-text (string_bytes a.content_encoding))
    (passes_by _ _ (unambiguous-text (string_bytes a.content_media_type))
    (is_asked _ _
    (passes_by _ _ (option-tree a.default)
    (passes_by _ _ (option-deprecated a.deprecated)
    (passes_by _ _ (option-text a.description)
    (passes_by _ _ (option-tree a.example)
    (passes_by _ _ (trees-always a.examples)
    (is_asked _ _
    (passes_by _ _ (option-whole a.max_items)
    (passes_by _ _ (option-whole a.min_items)
    (is_asked _ _
    (passes_by _ _ (option-text a.title)
    (passes_by _ _ (schema_type-always a.schema_type)
    (passes_by _ _ (unambiguous-flag a.unique_items)
    (passes_by _ _ (option-xml a.xml)
    docs-none))))))))))))))))

object_table_parts : {A S B C D E F : Type 0} (properties additional_properties property_names content_schema : Doc) (o : Object-F A S B C D E F)
    → is_unambiguous (object_table properties additional_properties property_names content_schema o) ≡ ((is_unambiguous additional_properties && (is_unambiguous content_schema && (is_unambiguous properties && (is_unambiguous property_names && true)))) && are_extensions (option_map extensions_view o.extensions))
object_table_parts properties additional_properties property_names content_schema o = unambiguous-table object_schema _ _ ∙ ap (λ x. x && are_extensions (option_map extensions_view o.extensions))
    (is_asked _ _
    (passes_by _ _ (unambiguous-text (string_bytes o.content_encoding))
    (passes_by _ _ (unambiguous-text (string_bytes o.content_media_type))
    (is_asked _ _
    (passes_by _ _ (option-tree o.default)
    (passes_by _ _ (option-deprecated o.deprecated)
    (passes_by _ _ (option-text o.description)
    (passes_by _ _ (option-trees o.enum_values)
    (passes_by _ _ (option-tree o.example)
    (passes_by _ _ (trees-always o.examples)
    (passes_by _ _ (option-number o.exclusive_maximum)
    (passes_by _ _ (option-number o.exclusive_minimum)
    (passes_by _ _ (option-format o.format)
    (passes_by _ _ (option-whole o.max_length)
    (passes_by _ _ (option-whole o.max_properties)
    (passes_by _ _ (option-number o.maximum)
    (passes_by _ _ (option-whole o.min_length)
    (passes_by _ _ (option-whole o.min_properties)
    (passes_by _ _ (option-number o.minimum)
    (passes_by _ _ (option-number o.multiple_of)
    (passes_by _ _ (option-text o.pattern)
    (is_asked _ _
    (is_asked _ _
    (passes_by _ _ (option-flag o.read_only)
    (passes_by _ _ (texts-always o.required)
    (passes_by _ _ (option-text o.title)
    (passes_by _ _ (schema_type-always o.schema_type)
    (passes_by _ _ (option-flag o.write_only)
    (passes_by _ _ (option-xml o.xml)
    docs-none)))))))))))))))))))))))))))))

-- ---- the documents

pub array_parts : (a : Array) → is_unambiguous (array_doc a) ≡ ((is_unambiguous (option_of (boxed (ref_or_doc schema schema_doc)) (out-Array a).content_schema) && (is_unambiguous (array_items_doc (out-Array a).items) && (is_unambiguous (list_of_docs schema_doc (out-Array a).prefix_items) && true))) && are_extensions (option_map extensions_view (out-Array a).extensions))
array_parts a = array_table_parts _ _ _ (out-Array a)

pub object_parts : (o : Object) → is_unambiguous (object_doc o) ≡ ((is_unambiguous (option_of (boxed (additional_properties_doc schema_doc)) (out-Object o).additional_properties) && (is_unambiguous (option_of (boxed (ref_or_doc schema schema_doc)) (out-Object o).content_schema) && (is_unambiguous (map_of_docs (ref_or_doc schema schema_doc) (out-Object o).properties) && (is_unambiguous (option_of (boxed schema_doc) (out-Object o).property_names) && true)))) && are_extensions (option_map extensions_view (out-Object o).extensions))
object_parts o = object_table_parts _ _ _ _ (out-Object o)

pub ruleset by_schemas = (array_parts, object_parts)
