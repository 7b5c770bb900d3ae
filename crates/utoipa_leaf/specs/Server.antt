-- The documents of servers and their variables.
use Rattle.std.specs.Prelude.{None, option_map, String, Vec}
use Rattle.std.specs.BTreeMap.{BTreeMap}
use Rattle.std.specs.declared.alloc.Global.{Global}
use Rattle.utoipa_base.specs.Kinds.{named, server_object, server_variable_object, text, list_of, map_of}
use Rattle.utoipa_base.specs.Docs.{Doc, table_doc, no_docs, doc}
use Rattle.utoipa_base.specs.Extensions.{extensions_view}
use Rattle.utoipa_base.specs.Views.{text_of, option_of, list_of_docs, map_of_docs}
use Rattle.utoipa_leaf.specs.declared.server.Server.{Server}
use Rattle.utoipa_leaf.specs.declared.server.ServerBuilder.{ServerBuilder}
use Rattle.utoipa_leaf.specs.declared.server.ServerVariable.{ServerVariable}
use Rattle.utoipa_leaf.specs.declared.server.ServerVariableBuilder.{ServerVariableBuilder}
use Rattle.utoipa_base.specs.Shape.{IsOf, value_of}
use Rattle.utoipa_base.specs.OfKind.{text_of_kind, option_of_kind, list_of_kind, map_of_kind, extends_of_kind, no_rows, next_row, table_of_kind}

-- a server at a URL, with nothing else
abbrev pub empty_server : String Global → Server
empty_server url = record { url = url; description = None; name = None; variables = None; extensions = None }

-- a server variable with its value, and nothing else
abbrev pub empty_server_variable : String Global → ServerVariable
empty_server_variable value = record { default_value = value; description = None; enum_values = None; extensions = None }

-- the values that a variable may have
abbrev pub Values : Type 0
Values = Vec (String Global) Global

-- the variables of a server, by their names
abbrev pub Variables : Type 0
Variables = BTreeMap (String Global) ServerVariable

-- the server of a builder so far
abbrev pub built_server : ServerBuilder → Server
built_server b = b.server

-- the server variable of a builder so far
abbrev pub built_server_variable : ServerVariableBuilder → ServerVariable
built_server_variable b = b.variable

abbrev pub server_variable_doc : ServerVariable → Doc
server_variable_doc v =
    table_doc server_variable_object
    (doc (text_of v.default_value)
    (doc (option_of text_of v.description)
    (doc (option_of (list_of_docs text_of) v.enum_values) no_docs)))
    (option_map extensions_view v.extensions)

abbrev pub server_doc : Server → Doc
server_doc s =
    table_doc server_object
    (doc (option_of text_of s.description)
    (doc (option_of text_of s.name)
    (doc (text_of s.url)
    (doc (option_of (map_of_docs server_variable_doc) s.variables) no_docs))))
    (option_map extensions_view s.extensions)

pub server_variable_of_kind : (v : ServerVariable) → IsOf (server_variable_doc v) (value_of (named server_variable_object))
server_variable_of_kind v =
    table_of_kind _ _
    (next_row (text_of_kind v.default_value)
    (next_row (option_of_kind text_of text text_of_kind v.description)
    (next_row (option_of_kind (list_of_docs text_of) (list_of text) (list_of_kind text_of text text_of_kind) v.enum_values) no_rows)))
    (extends_of_kind (option_map extensions_view v.extensions))

pub server_of_kind : (s : Server) → IsOf (server_doc s) (value_of (named server_object))
server_of_kind s =
    table_of_kind _ _
    (next_row (option_of_kind text_of text text_of_kind s.description)
    (next_row (option_of_kind text_of text text_of_kind s.name)
    (next_row (text_of_kind s.url)
    (next_row (option_of_kind (map_of_docs server_variable_doc) (map_of (named server_variable_object)) (map_of_kind server_variable_doc (named server_variable_object) server_variable_of_kind) s.variables) no_rows))))
    (extends_of_kind (option_map extensions_view s.extensions))
