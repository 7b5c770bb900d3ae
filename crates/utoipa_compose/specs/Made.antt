-- The schemas that types are composed to, as documents.
use Rattle.std.specs.Prelude.{◌∷◌, [], ℕ, Bool, true, false, List, None, map, pos}
use Rattle.serde_json.specs.Data.{null}
use Rattle.utoipa_base.specs.Docs.{Doc, flag_doc, int_doc, text_doc, tree_doc, list_doc, map_doc, none_doc, some_doc, own_doc, any_value_doc, table_doc, no_docs, doc, no_entries, docs_of, entries_of_list}
use Rattle.utoipa_base.specs.Docs as docs
use Rattle.utoipa_base.specs.Kinds.{array_schema, object_schema, one_of_schema}
use Rattle.utoipa_schema_parts.specs.Format.{known_format_doc}
use Rattle.utoipa_schema_parts.specs.Types.{type_word_doc}
use Rattle.utoipa_schema_parts.specs.declared.format.KnownFormat.{KnownFormat}
use Rattle.utoipa_schema_parts.specs.declared.format.KnownFormat.TheVariants as formats
use Rattle.utoipa_schema_parts.specs.declared.types.TypeWord.{TypeWord}
use Rattle.utoipa_schema_parts.specs.declared.types.TypeWord.TheVariants as words

-- ---- what a member holds of which nothing is said

abbrev pub no_list : Doc
no_list = list_doc no_docs

abbrev pub no_map : Doc
no_map = map_doc no_entries

abbrev pub no_text : Doc
no_text = text_doc []

-- ---- schemas of which nothing is said but some members

-- an object schema: its types, format, default, the names of the properties that have to be there, the schemas of its properties, of
-- its other values and of its keys, and its least value
abbrev pub object_with : (types format default required properties values keys minimum : Doc) → Doc
object_with types format default required properties values keys minimum =
    own_doc (docs.schema_doc (table_doc object_schema
    (doc values
    (doc no_text
    (doc no_text
    (doc none_doc
    (doc default
    (doc none_doc
    (doc none_doc
    (doc none_doc
    (doc none_doc
    (doc no_list
    (doc none_doc
    (doc none_doc
    (doc format
    (doc none_doc
    (doc none_doc
    (doc none_doc
    (doc none_doc
    (doc none_doc
    (doc minimum
    (doc none_doc
    (doc none_doc
    (doc properties
    (doc keys
    (doc none_doc
    (doc required
    (doc none_doc
    (doc types
    (doc none_doc
    (doc none_doc no_docs)))))))))))))))))))))))))))))
    None))

-- an object schema without properties
abbrev pub object_of : (types format default values keys minimum : Doc) → Doc
object_of types format default values keys minimum = object_with types format default no_list no_map values keys minimum

-- an array of the items, which may have to be unique
abbrev pub array_of : (items : Doc) (unique : Bool) → Doc
array_of items unique =
    own_doc (docs.schema_doc (table_doc array_schema
    (doc no_text
    (doc no_text
    (doc none_doc
    (doc none_doc
    (doc none_doc
    (doc none_doc
    (doc none_doc
    (doc no_list
    (doc items
    (doc none_doc
    (doc none_doc
    (doc no_list
    (doc none_doc
    (doc (type_word_doc words.Array)
    (doc (flag_doc unique)
    (doc none_doc no_docs))))))))))))))))
    None))

-- one of the schemas
abbrev pub one_of : List Doc → Doc
one_of schemas =
    own_doc (docs.schema_doc (table_doc one_of_schema
    (doc none_doc
    (doc none_doc
    (doc none_doc
    (doc none_doc
    (doc no_list
    (doc (list_doc (docs_of schemas))
    (doc none_doc
    (doc none_doc
    (doc any_value_doc
    (doc none_doc no_docs))))))))))
    None))

-- ---- the schemas of plain types

-- a value of the type
abbrev pub typed : TypeWord → Doc
typed word = object_of (type_word_doc word) none_doc none_doc none_doc none_doc none_doc

-- an integer, of the format and with the least value
abbrev pub integer : (format minimum : Doc) → Doc
integer format minimum = object_of (type_word_doc words.Integer) format none_doc none_doc none_doc minimum

-- a known format, as a member
abbrev pub format_of : KnownFormat → Doc
format_of f = some_doc (known_format_doc f)

-- the least value of an integer without a sign
abbrev pub zero_minimum : Doc
zero_minimum = some_doc (int_doc (pos 0))

-- any value
abbrev pub anything : Doc
anything = object_of any_value_doc none_doc none_doc none_doc none_doc none_doc

-- any value, null where there is none
abbrev pub nothing : Doc
nothing = object_of any_value_doc none_doc (some_doc (tree_doc null)) none_doc none_doc none_doc

-- ---- the schemas of types with parameters

-- null, or a value of the schema
abbrev pub nullable : Doc → Doc
nullable schema = one_of (typed words.Null ∷ schema ∷ [])

-- a list of such values
abbrev pub listed : Doc → Doc
listed items = array_of items false

-- a set of such values
abbrev pub unique : Doc → Doc
unique items = array_of items true

-- a map from keys of one schema, which is no reference, to values of another
abbrev pub mapped : (keys values : Doc) → Doc
mapped keys values = object_of (type_word_doc words.Object) none_doc none_doc (some_doc values) (some_doc keys) none_doc

-- ---- the schemas of types without parameters

abbrev pub int32 : Doc
int32 = integer (format_of formats.Int32) none_doc

abbrev pub int64 : Doc
int64 = integer (format_of formats.Int64) none_doc

abbrev pub signed : Doc
signed = integer none_doc none_doc

abbrev pub unsigned32 : Doc
unsigned32 = integer (format_of formats.Int32) zero_minimum

abbrev pub unsigned64 : Doc
unsigned64 = integer (format_of formats.Int64) zero_minimum

abbrev pub unsigned : Doc
unsigned = integer none_doc zero_minimum

abbrev pub boolean : Doc
boolean = typed words.Boolean

abbrev pub text : Doc
text = typed words.String

-- ---- the schema of a struct

-- an object with these properties, of which those of these names have to be there
abbrev pub struct_of : (required : List (List ℕ)) (properties : List (List ℕ × Doc)) → Doc
struct_of required properties = object_with (type_word_doc words.Object) none_doc none_doc (list_doc (docs_of (map text_doc required))) (map_doc (entries_of_list properties)) none_doc none_doc none_doc
