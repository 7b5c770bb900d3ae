-- The documents of parameters.
use Rattle.std.specs.Prelude.{◌≡◌, [], Option, None, option_map, String, string_bytes}
use Rattle.std.specs.declared.alloc.Global.{Global}
use Rattle.serde_json.specs.Data.{Data}
use Rattle.serde_json.specs.View.{view}
use Rattle.utoipa_base.specs.Docs.{Doc, table_doc, no_docs, doc, flag_doc}
use Rattle.utoipa_base.specs.Extensions.{extensions_view}
use Rattle.utoipa_base.specs.Flags.{required_doc, deprecated_doc}
use Rattle.utoipa_base.specs.Kinds.{flag, text, any, word_of, parameter_style, schema, named, ref_or, media_type_object, parameter_object}
use Rattle.utoipa_base.specs.OfKind.{text_of_kind, flag_of_kind, tree_of_kind, required_of_kind, deprecated_of_kind, option_of_kind, map_of_kind, ref_or_of_kind, extends_of_kind, no_rows, next_row, table_of_kind}
use Rattle.utoipa_base.specs.Refs.{ref_or_doc}
use Rattle.utoipa_base.specs.Shape.{IsOf, value_of}
use Rattle.utoipa_base.specs.Views.{text_of, tree_of, option_of, map_of_docs}
use Rattle.utoipa_base.specs.declared.required.Required.{Required}
use Rattle.utoipa_base.specs.declared.required.Required.TheVariants as requirement
use Rattle.utoipa_leaf.specs.Path.{parameter_in_doc, parameter_in_of_kind, parameter_style_doc, parameter_style_of_kind}
use Rattle.utoipa_leaf.specs.declared.path.ParameterIn.{ParameterIn}
use Rattle.utoipa_leaf.specs.declared.path.ParameterIn.TheVariants.{Query, Path, Header, Cookie, QueryString}
use Rattle.utoipa_media.specs.Docs.{content_doc}
use Rattle.utoipa_media.specs.OfKind.{content_of_kind}
use Rattle.utoipa_schema.specs.Docs.{schema_doc}
use Rattle.utoipa_schema.specs.OfKind.{schema_of_kind}
use Rattle.utoipa_operation_parts.specs.declared.parameter.Parameter.{Parameter}
use Rattle.utoipa_operation_parts.specs.declared.parameter.ParameterBuilder.{ParameterBuilder}

-- the parameter of a builder so far
abbrev pub built_parameter : ParameterBuilder → Parameter
built_parameter b = b.parameter

-- the tree of a parameter's example
abbrev pub parameter_example : Parameter → Option Data
parameter_example p = option_map view p.example

-- the parameter stands in the path
abbrev pub in_path : ParameterIn
in_path = Path

-- it has to be sent
abbrev pub is_required : Required
is_required = requirement.True

-- it need not be sent
abbrev pub is_not_required : Required
is_not_required = requirement.False

-- what a parameter that stands there is told about being sent: one in the path has to be sent whatever is said
abbrev pub required_in : ParameterIn → Required → Required
required_in Path r = is_required
required_in Query r = r
required_in Header r = r
required_in Cookie r = r
required_in QueryString r = r

-- nothing but a name, a place and whether it has to be sent is said of the parameter
abbrev pub SaysNoMore : ParameterIn → Required → Parameter → Type 0
SaysNoMore place required p =
    (p.parameter_in ≡ place)
    × (p.description ≡ None)
    × (p.required ≡ required)
    × (p.deprecated ≡ None)
    × (p.schema ≡ None)
    × (p.content.entries ≡ [])
    × (p.style ≡ None)
    × (p.explode ≡ None)
    × (p.allow_reserved ≡ None)
    × (p.example ≡ None)
    × (p.extensions ≡ None)

-- the parameter of this name and place, of which nothing else is said but whether it has to be sent
abbrev pub IsParameterOf : String Global → ParameterIn → Required → Parameter → Type 0
IsParameterOf name place required p = (p.name ≡ name) × SaysNoMore place required p

-- the parameter has no name, stands in the path and need not be sent
abbrev pub IsEmptyParameter : Parameter → Type 0
IsEmptyParameter p = (string_bytes p.name ≡ []) × SaysNoMore in_path is_not_required p

-- a parameter as a document
abbrev pub parameter_doc : Parameter → Doc
parameter_doc p =
    table_doc parameter_object
    (doc (option_of flag_doc p.allow_reserved)
    (doc (map_of_docs (ref_or_doc (named media_type_object) content_doc) p.content)
    (doc (option_of deprecated_doc p.deprecated)
    (doc (option_of text_of p.description)
    (doc (option_of tree_of p.example)
    (doc (option_of flag_doc p.explode)
    (doc (parameter_in_doc p.parameter_in)
    (doc (text_of p.name)
    (doc (required_doc p.required)
    (doc (option_of (ref_or_doc schema schema_doc) p.schema)
    (doc (option_of parameter_style_doc p.style) no_docs)))))))))))
    (option_map extensions_view p.extensions)

-- why a parameter is of its kind
pub parameter_of_kind : (p : Parameter) → IsOf (parameter_doc p) (value_of (named parameter_object))
parameter_of_kind p =
    table_of_kind _ _
    (next_row (option_of_kind flag_doc flag flag_of_kind p.allow_reserved)
    (next_row (map_of_kind (ref_or_doc (named media_type_object) content_doc) (ref_or (named media_type_object)) (ref_or_of_kind content_doc (named media_type_object) content_of_kind) p.content)
    (next_row (option_of_kind deprecated_doc flag deprecated_of_kind p.deprecated)
    (next_row (option_of_kind text_of text text_of_kind p.description)
    (next_row (option_of_kind tree_of any tree_of_kind p.example)
    (next_row (option_of_kind flag_doc flag flag_of_kind p.explode)
    (next_row (parameter_in_of_kind p.parameter_in)
    (next_row (text_of_kind p.name)
    (next_row (required_of_kind p.required)
    (next_row (option_of_kind (ref_or_doc schema schema_doc) (ref_or schema) (ref_or_of_kind schema_doc schema schema_of_kind) p.schema)
    (next_row (option_of_kind parameter_style_doc (word_of parameter_style) parameter_style_of_kind p.style) no_rows)))))))))))
    (extends_of_kind (option_map extensions_view p.extensions))
