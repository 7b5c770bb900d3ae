-- The documents of security schemes of every type.
use Rattle.std.specs.Prelude.{ℕ, List, [], ◌∷◌, Option, codes, option_map, refl, String}
use Rattle.std.specs.declared.alloc.Global.{Global}
use Rattle.utoipa_base.specs.Choices.{scheme_types}
use Rattle.utoipa_base.specs.Docs.{Doc, tagged_doc, table_doc, no_docs, doc}
use Rattle.utoipa_base.specs.Extensions.{extensions_view}
use Rattle.utoipa_base.specs.Flags.{deprecated_doc}
use Rattle.utoipa_base.specs.Kinds.{Kind, named, text, flag, security_scheme, api_key, oauth2_scheme, http_scheme, open_id_connect_scheme, mutual_tls_scheme}
use Rattle.utoipa_base.specs.OfKind.{text_of_kind, option_of_kind, deprecated_of_kind, extends_of_kind, table_of_kind, next_row, no_rows}
use Rattle.utoipa_base.specs.Shape.{IsOf, value_of}
use Rattle.utoipa_base.specs.Views.{text_of, option_of}
use Rattle.utoipa_base.specs.declared.deprecated.Deprecated.{Deprecated}
use Rattle.utoipa_base.specs.declared.extensions.Extensions.{Extensions}
use Rattle.utoipa_security.specs.ApiKey.{api_key_doc, api_key_of_kind}
use Rattle.utoipa_security.specs.Http.{http_doc, http_of_kind}
use Rattle.utoipa_security.specs.OAuth.{oauth2_doc, oauth2_of_kind}
use Rattle.utoipa_security.specs.OpenIdConnect.{open_id_connect_doc, open_id_connect_of_kind}
use Rattle.utoipa_security.specs.declared.security.scheme.SecurityScheme.{SecurityScheme}
use Rattle.utoipa_security.specs.declared.security.scheme.SecurityScheme.TheVariants as made
use Rattle.utoipa_security.specs.declared.security.scheme.SchemeType.{SchemeType}
use Rattle.utoipa_security.specs.declared.security.scheme.SchemeType.TheVariants as types

-- ---- the type of a scheme

-- the word of a type
abbrev pub scheme_type_text : SchemeType → List ℕ
scheme_type_text types.OAuth2 = codes "oauth2"
scheme_type_text types.ApiKey = codes "apiKey"
scheme_type_text types.Http = codes "http"
scheme_type_text types.OpenIdConnect = codes "openIdConnect"
scheme_type_text types.MutualTls = codes "mutualTLS"

-- what the members of a scheme of a type are
abbrev pub scheme_kind : SchemeType → Kind
scheme_kind types.OAuth2 = named oauth2_scheme
scheme_kind types.ApiKey = api_key
scheme_kind types.Http = named http_scheme
scheme_kind types.OpenIdConnect = named open_id_connect_scheme
scheme_kind types.MutualTls = named mutual_tls_scheme

-- each type
abbrev pub every_scheme_type : List SchemeType
every_scheme_type = types.OAuth2 ∷ types.ApiKey ∷ types.Http ∷ types.OpenIdConnect ∷ types.MutualTls ∷ []

-- ---- a scheme

-- the members of a scheme by mutual TLS as a document
abbrev pub mutual_tls_doc : Option (String Global) → Option Deprecated → Option Extensions → Doc
mutual_tls_doc description deprecated extensions =
    table_doc mutual_tls_scheme
    (doc (option_of deprecated_doc deprecated)
    (doc (option_of text_of description) no_docs))
    (option_map extensions_view extensions)

-- the type of a scheme
abbrev pub type_of : SecurityScheme → SchemeType
type_of (made.OAuth2 s) = types.OAuth2
type_of (made.ApiKey s) = types.ApiKey
type_of (made.Http s) = types.Http
type_of (made.OpenIdConnect s) = types.OpenIdConnect
type_of (made.MutualTls description deprecated extensions) = types.MutualTls

-- the members of a scheme as a document
abbrev pub scheme_object : SecurityScheme → Doc
scheme_object (made.OAuth2 s) = oauth2_doc s
scheme_object (made.ApiKey s) = api_key_doc s
scheme_object (made.Http s) = http_doc s
scheme_object (made.OpenIdConnect s) = open_id_connect_doc s
scheme_object (made.MutualTls description deprecated extensions) = mutual_tls_doc description deprecated extensions

-- a scheme as a document
abbrev pub scheme_doc : SecurityScheme → Doc
scheme_doc s = tagged_doc (codes "type") (scheme_type_text (type_of s)) (scheme_object s)

-- the members of a scheme by mutual TLS are an object of their type
mutual_tls_of_kind : (description : Option (String Global)) (deprecated : Option Deprecated) (extensions : Option Extensions) → IsOf (mutual_tls_doc description deprecated extensions) (value_of (named mutual_tls_scheme))
mutual_tls_of_kind description deprecated extensions =
    table_of_kind _ _
    (next_row (option_of_kind deprecated_doc flag deprecated_of_kind deprecated)
    (next_row (option_of_kind text_of text text_of_kind description) no_rows))
    (extends_of_kind (option_map extensions_view extensions))

-- a scheme is a security scheme
pub scheme_of_kind : (s : SecurityScheme) → IsOf (scheme_doc s) (value_of security_scheme)
unfolding IsOf
scheme_of_kind (made.OAuth2 s) = (scheme_types, named oauth2_scheme, refl, refl, oauth2_of_kind s)
scheme_of_kind (made.ApiKey s) = (scheme_types, api_key, refl, refl, api_key_of_kind s)
scheme_of_kind (made.Http s) = (scheme_types, named http_scheme, refl, refl, http_of_kind s)
scheme_of_kind (made.OpenIdConnect s) = (scheme_types, named open_id_connect_scheme, refl, refl, open_id_connect_of_kind s)
scheme_of_kind (made.MutualTls description deprecated extensions) = (scheme_types, named mutual_tls_scheme, refl, refl, mutual_tls_of_kind description deprecated extensions)
