-- The documents of links.
use Rattle.std.specs.Prelude.{◌≡◌, [], None, option_map, String, string_bytes}
use Rattle.std.specs.BTreeMap.{BTreeMap}
use Rattle.std.specs.declared.alloc.Global.{Global}
use Rattle.serde_json.specs.declared.value.Value.{Value}
use Rattle.utoipa_base.specs.Kinds.{named, link_object, server_object, any}
use Rattle.utoipa_base.specs.Docs.{Doc, table_doc, no_docs, doc}
use Rattle.utoipa_base.specs.Extensions.{extensions_view}
use Rattle.utoipa_base.specs.OfKind.{text_of_kind, tree_of_kind, option_of_kind, map_of_kind, extends_of_kind, no_rows, next_row, table_of_kind}
use Rattle.utoipa_base.specs.Shape.{IsOf, value_of}
use Rattle.utoipa_base.specs.Views.{text_of, tree_of, option_of, map_of_docs}
use Rattle.utoipa_leaf.specs.Server.{server_doc, server_of_kind}
use Rattle.utoipa_media.specs.declared.link.Link.{Link}
use Rattle.utoipa_media.specs.declared.link.LinkBuilder.{LinkBuilder}

-- the values of parameters, by their names
abbrev pub Parameters : Type 0
Parameters = BTreeMap (String Global) Value

-- the link of a builder so far
abbrev pub built_link : LinkBuilder → Link
built_link b = b.link

-- nothing is said of the link
abbrev pub IsEmptyLink : Link → Type 0
IsEmptyLink l =
    (string_bytes l.operation_ref ≡ [])
    × (string_bytes l.operation_id ≡ [])
    × (l.parameters.entries ≡ [])
    × (l.request_body ≡ None)
    × (string_bytes l.description ≡ [])
    × (l.server ≡ None)
    × (l.extensions ≡ None)

-- a link as a document
abbrev pub link_doc : Link → Doc
link_doc l =
    table_doc link_object
    (doc (text_of l.description)
    (doc (text_of l.operation_id)
    (doc (text_of l.operation_ref)
    (doc (map_of_docs tree_of l.parameters)
    (doc (option_of tree_of l.request_body)
    (doc (option_of server_doc l.server) no_docs))))))
    (option_map extensions_view l.extensions)

-- why a link is of its kind
pub link_of_kind : (l : Link) → IsOf (link_doc l) (value_of (named link_object))
link_of_kind l =
    table_of_kind _ _
    (next_row (text_of_kind l.description)
    (next_row (text_of_kind l.operation_id)
    (next_row (text_of_kind l.operation_ref)
    (next_row (map_of_kind tree_of any tree_of_kind l.parameters)
    (next_row (option_of_kind tree_of any tree_of_kind l.request_body)
    (next_row (option_of_kind server_doc (named server_object) server_of_kind l.server) no_rows))))))
    (extends_of_kind (option_map extensions_view l.extensions))
