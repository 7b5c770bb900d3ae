-- The documents of schemes by OpenID Connect.
use Rattle.std.specs.Prelude.{Option, None, option_map, String}
use Rattle.std.specs.declared.alloc.Global.{Global}
use Rattle.utoipa_base.specs.Kinds.{named, open_id_connect_scheme, text, flag}
use Rattle.utoipa_base.specs.Docs.{Doc, table_doc, no_docs, doc}
use Rattle.utoipa_base.specs.Extensions.{extensions_view}
use Rattle.utoipa_base.specs.Flags.{deprecated_doc}
use Rattle.utoipa_base.specs.Views.{text_of, option_of}
use Rattle.utoipa_base.specs.Shape.{IsOf, value_of}
use Rattle.utoipa_base.specs.OfKind.{text_of_kind, option_of_kind, deprecated_of_kind, extends_of_kind, table_of_kind, next_row, no_rows}
use Rattle.utoipa_security.specs.declared.security.open_id_connect.OpenIdConnect.{OpenIdConnect}

-- a scheme by OpenID Connect with its URL and a description, if any, and nothing else
abbrev pub made_open_id_connect : String Global → Option (String Global) → OpenIdConnect
made_open_id_connect url description = record { open_id_connect_url = url; description = description; deprecated = None; extensions = None }

-- a scheme by OpenID Connect as a document
abbrev pub open_id_connect_doc : OpenIdConnect → Doc
open_id_connect_doc s =
    table_doc open_id_connect_scheme
    (doc (option_of deprecated_doc s.deprecated)
    (doc (option_of text_of s.description)
    (doc (text_of s.open_id_connect_url) no_docs)))
    (option_map extensions_view s.extensions)

-- a scheme by OpenID Connect is an object of its type
pub open_id_connect_of_kind : (s : OpenIdConnect) → IsOf (open_id_connect_doc s) (value_of (named open_id_connect_scheme))
open_id_connect_of_kind s =
    table_of_kind _ _
    (next_row (option_of_kind deprecated_doc flag deprecated_of_kind s.deprecated)
    (next_row (option_of_kind text_of text text_of_kind s.description)
    (next_row (text_of_kind s.open_id_connect_url) no_rows)))
    (extends_of_kind (option_map extensions_view s.extensions))
