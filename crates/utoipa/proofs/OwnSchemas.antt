-- The documents of schemas that are made: objects of which little is said.
use Rattle.std.proofs.Common.{◌≡◌, ◌∙◌, ℕ, List, [], ◌∷◌, Some, None, String, Global, option_map, map, ap, refl, string_bytes}
use Rattle.utoipa_base.specs.Docs.{Doc, flag_doc, text_doc, own_doc, whole_doc, list_doc, map_doc, none_doc, some_doc, table_doc, no_docs, doc, docs_of, entries_of_list}
use Rattle.utoipa_base.specs.Docs as docs
use Rattle.utoipa_base.specs.Extensions.{extensions_view}
use Rattle.utoipa_base.specs.Flags.{deprecated_doc}
use Rattle.utoipa_base.specs.Kinds.{object_schema}
use Rattle.utoipa_base.specs.Numbers.{number_doc}
use Rattle.utoipa_base.specs.Views.{boxed, list_of_docs, option_of, pairs_of, text_of, tree_of}
use Rattle.utoipa_schema_parts.specs.Format.{schema_format_doc}
use Rattle.utoipa_schema_parts.specs.Types.{schema_type_doc}
use Rattle.utoipa_schema_parts.specs.Xml.{xml_doc}
use Rattle.utoipa_schema_parts.specs.declared.types.SchemaType.{SchemaType}
use Rattle.utoipa_schema_parts.specs.declared.types.SchemaType.TheVariants as types
use Rattle.utoipa_schema_parts.specs.declared.types.TypeWord.TheVariants as words
use Rattle.utoipa_schema.specs.Builders.{object_place, IsEmptyObject, one_object, Texts, Values, Properties}
use Rattle.utoipa_schema.specs.Docs.{schema_doc, additional_properties_doc}
use Rattle.utoipa_schema.specs.Folds.{schema-Object}
use Rattle.utoipa_schema.specs.declared.types.Object.{Object}
use Rattle.utoipa_compose.specs.Compositions.{place_doc}
use Rattle.utoipa_compose.specs.Made.{struct_of}
use Rattle.utoipa.specs.OwnSchemas.{text_among, text_tree}

-- the type of a text alone
abbrev one_text : SchemaType
one_text = types.Single words.String

-- an object of these types, of which nothing was said, with these values, names of required properties and properties
abbrev said : (types values required properties : Doc) → Doc
said types values required properties =
    own_doc (docs.schema_doc (table_doc object_schema
    (doc none_doc
    (doc (text_doc [])
    (doc (text_doc [])
    (doc none_doc
    (doc none_doc
    (doc none_doc
    (doc none_doc
    (doc values
    (doc none_doc
    (doc (list_doc no_docs)
    (doc none_doc
    (doc none_doc
    (doc none_doc
    (doc none_doc
    (doc none_doc
    (doc none_doc
    (doc none_doc
    (doc none_doc
    (doc none_doc
    (doc none_doc
    (doc none_doc
    (doc properties
    (doc none_doc
    (doc none_doc
    (doc required
    (doc none_doc
    (doc types
    (doc none_doc
    (doc none_doc no_docs)))))))))))))))))))))))))))))
    None))

-- such an object with its required properties and its properties set
pub object_with_properties : (t : SchemaType) (o : Object) → IsEmptyObject t o → (r : Texts) (ps : Properties)
    → place_doc (object_place (record o { required = r; properties = ps }))
    ≡ said (schema_type_doc t) none_doc (list_of_docs text_of r) (map_doc (entries_of_list (pairs_of place_doc ps.entries)))
object_with_properties t o (types, title, format, description, default, enums, required, properties, additional, names, deprecated, example, examples, write_only, read_only, xml, multiple, maximum, minimum, exclusive_maximum, exclusive_minimum, max_length, min_length, pattern, max_properties, min_properties, encoding, media_type, content, extensions) r ps =
    ap own_doc (schema-Object (record o { required = r; properties = ps })) ∙
    (λ i. own_doc (docs.schema_doc (table_doc object_schema
    (doc (option_of (boxed (additional_properties_doc schema_doc)) (additional i))
    (doc (text_doc (encoding i))
    (doc (text_doc (media_type i))
    (doc (option_of (boxed place_doc) (content i))
    (doc (option_of tree_of (default i))
    (doc (option_of deprecated_doc (deprecated i))
    (doc (option_of text_of (description i))
    (doc (option_of (list_of_docs tree_of) (enums i))
    (doc (option_of tree_of (example i))
    (doc (list_doc (docs_of (map tree_of (examples i))))
    (doc (option_of number_doc (exclusive_maximum i))
    (doc (option_of number_doc (exclusive_minimum i))
    (doc (option_of schema_format_doc (format i))
    (doc (option_of whole_doc (max_length i))
    (doc (option_of whole_doc (max_properties i))
    (doc (option_of number_doc (maximum i))
    (doc (option_of whole_doc (min_length i))
    (doc (option_of whole_doc (min_properties i))
    (doc (option_of number_doc (minimum i))
    (doc (option_of number_doc (multiple i))
    (doc (option_of text_of (pattern i))
    (doc (map_doc (entries_of_list (pairs_of place_doc ps.entries)))
    (doc (option_of (boxed schema_doc) (names i))
    (doc (option_of flag_doc (read_only i))
    (doc (list_of_docs text_of r)
    (doc (option_of text_of (title i))
    (doc (schema_type_doc (types i))
    (doc (option_of flag_doc (write_only i))
    (doc (option_of xml_doc (xml i)) no_docs)))))))))))))))))))))))))))))
    (option_map extensions_view (extensions i)))))

-- such an object with its values set
pub object_with_values : (t : SchemaType) (o : Object) → IsEmptyObject t o → (vs : Values)
    → place_doc (object_place (record o { enum_values = Some vs })) ≡ said (schema_type_doc t) (some_doc (list_of_docs tree_of vs)) (list_doc no_docs) (map_doc docs.no_entries)
object_with_values t o (types, title, format, description, default, enums, required, properties, additional, names, deprecated, example, examples, write_only, read_only, xml, multiple, maximum, minimum, exclusive_maximum, exclusive_minimum, max_length, min_length, pattern, max_properties, min_properties, encoding, media_type, content, extensions) vs =
    ap own_doc (schema-Object (record o { enum_values = Some vs })) ∙
    (λ i. own_doc (docs.schema_doc (table_doc object_schema
    (doc (option_of (boxed (additional_properties_doc schema_doc)) (additional i))
    (doc (text_doc (encoding i))
    (doc (text_doc (media_type i))
    (doc (option_of (boxed place_doc) (content i))
    (doc (option_of tree_of (default i))
    (doc (option_of deprecated_doc (deprecated i))
    (doc (option_of text_of (description i))
    (doc (some_doc (list_of_docs tree_of vs))
    (doc (option_of tree_of (example i))
    (doc (list_doc (docs_of (map tree_of (examples i))))
    (doc (option_of number_doc (exclusive_maximum i))
    (doc (option_of number_doc (exclusive_minimum i))
    (doc (option_of schema_format_doc (format i))
    (doc (option_of whole_doc (max_length i))
    (doc (option_of whole_doc (max_properties i))
    (doc (option_of number_doc (maximum i))
    (doc (option_of whole_doc (min_length i))
    (doc (option_of whole_doc (min_properties i))
    (doc (option_of number_doc (minimum i))
    (doc (option_of number_doc (multiple i))
    (doc (option_of text_of (pattern i))
    (doc (map_doc (entries_of_list (pairs_of place_doc (properties i))))
    (doc (option_of (boxed schema_doc) (names i))
    (doc (option_of flag_doc (read_only i))
    (doc (list_doc (docs_of (map text_of (required i))))
    (doc (option_of text_of (title i))
    (doc (schema_type_doc (types i))
    (doc (option_of flag_doc (write_only i))
    (doc (option_of xml_doc (xml i)) no_docs)))))))))))))))))))))))))))))
    (option_map extensions_view (extensions i)))))

-- texts as documents, by their bytes
texts_by_bytes : (ts : List (String Global)) → map text_of ts ≡ map text_doc (map string_bytes ts)
texts_by_bytes [] = refl
texts_by_bytes (t ∷ ts) = ap (λ ds. text_of t ∷ ds) (texts_by_bytes ts)

-- the object of a struct's fields
pub struct_made : (o : Object) → IsEmptyObject one_object o → (r : Texts) (ps : Properties)
    → place_doc (object_place (record o { required = r; properties = ps })) ≡ struct_of (map string_bytes r.items) (pairs_of place_doc ps.entries)
struct_made o empty r ps =
    object_with_properties one_object o empty r ps
    ∙ ap (λ ds. said (schema_type_doc one_object) none_doc (list_doc (docs_of ds)) (map_doc (entries_of_list (pairs_of place_doc ps.entries)))) (texts_by_bytes r.items)

-- an object of the type of a text, with the values set that are these texts
pub texts_made : (o : Object) → IsEmptyObject one_text o → (vs : Values) (texts : List (List ℕ)) → map tree_of vs.items ≡ map text_tree texts
    → place_doc (object_place (record o { enum_values = Some vs })) ≡ text_among texts
texts_made o empty vs texts are =
    object_with_values one_text o empty vs
    ∙ ap (λ ds. said (schema_type_doc one_text) (some_doc (list_doc (docs_of ds))) (list_doc no_docs) (map_doc docs.no_entries)) are
