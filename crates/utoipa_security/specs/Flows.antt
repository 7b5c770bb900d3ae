-- The documents of OAuth flows of each kind.
use Rattle.std.specs.Prelude.{Option, None, option_map, String}
use Rattle.std.specs.declared.alloc.Global.{Global}
use Rattle.utoipa_base.specs.Kinds.{named, implicit_flow, password_flow, client_credentials_flow, authorization_code_flow, device_authorization_flow, text}
use Rattle.utoipa_base.specs.Docs.{Doc, table_doc, no_docs, doc}
use Rattle.utoipa_base.specs.Extensions.{extensions_view}
use Rattle.utoipa_base.specs.Views.{text_of, option_of}
use Rattle.utoipa_base.specs.Shape.{IsOf, value_of}
use Rattle.utoipa_base.specs.OfKind.{text_of_kind, option_of_kind, extends_of_kind, table_of_kind, next_row, no_rows}
use Rattle.utoipa_security.specs.Scopes.{scopes_member, scopes_member_of_kind}
use Rattle.utoipa_security.specs.declared.security.scopes.Scopes.{Scopes}
use Rattle.utoipa_security.specs.declared.security.flow.Implicit.{Implicit}
use Rattle.utoipa_security.specs.declared.security.flow.Password.{Password}
use Rattle.utoipa_security.specs.declared.security.flow.ClientCredentials.{ClientCredentials}
use Rattle.utoipa_security.specs.declared.security.flow.AuthorizationCode.{AuthorizationCode}
use Rattle.utoipa_security.specs.declared.security.flow.DeviceAuthorization.{DeviceAuthorization}

-- ---- the implicit flow

-- the flow with its URLs and scopes, and nothing else
abbrev pub made_implicit : String Global → Option (String Global) → Scopes → Implicit
made_implicit authorization_url refresh_url scopes = record { authorization_url = authorization_url; refresh_url = refresh_url; scopes = scopes; extensions = None }

-- the flow's members as a document
abbrev pub implicit_doc : Implicit → Doc
implicit_doc f =
    table_doc implicit_flow
    (doc (text_of f.authorization_url)
    (doc (option_of text_of f.refresh_url)
    (doc (scopes_member f.scopes) no_docs)))
    (option_map extensions_view f.extensions)

-- the flow's members are an object of their type
pub implicit_of_kind : (f : Implicit) → IsOf (implicit_doc f) (value_of (named implicit_flow))
implicit_of_kind f =
    table_of_kind _ _
    (next_row (text_of_kind f.authorization_url)
    (next_row (option_of_kind text_of text text_of_kind f.refresh_url)
    (next_row (scopes_member_of_kind f.scopes) no_rows)))
    (extends_of_kind (option_map extensions_view f.extensions))

-- ---- the flow by the password of the resource owner

-- the flow with its URLs and scopes, and nothing else
abbrev pub made_password : String Global → Option (String Global) → Scopes → Password
made_password token_url refresh_url scopes = record { token_url = token_url; refresh_url = refresh_url; scopes = scopes; extensions = None }

-- the flow's members as a document
abbrev pub password_doc : Password → Doc
password_doc f =
    table_doc password_flow
    (doc (option_of text_of f.refresh_url)
    (doc (scopes_member f.scopes)
    (doc (text_of f.token_url) no_docs)))
    (option_map extensions_view f.extensions)

-- the flow's members are an object of their type
pub password_of_kind : (f : Password) → IsOf (password_doc f) (value_of (named password_flow))
password_of_kind f =
    table_of_kind _ _
    (next_row (option_of_kind text_of text text_of_kind f.refresh_url)
    (next_row (scopes_member_of_kind f.scopes)
    (next_row (text_of_kind f.token_url) no_rows)))
    (extends_of_kind (option_map extensions_view f.extensions))

-- ---- the flow by the credentials of the client

-- the flow with its URLs and scopes, and nothing else
abbrev pub made_client_credentials : String Global → Option (String Global) → Scopes → ClientCredentials
made_client_credentials token_url refresh_url scopes = record { token_url = token_url; refresh_url = refresh_url; scopes = scopes; extensions = None }

-- the flow's members as a document
abbrev pub client_credentials_doc : ClientCredentials → Doc
client_credentials_doc f =
    table_doc client_credentials_flow
    (doc (option_of text_of f.refresh_url)
    (doc (scopes_member f.scopes)
    (doc (text_of f.token_url) no_docs)))
    (option_map extensions_view f.extensions)

-- the flow's members are an object of their type
pub client_credentials_of_kind : (f : ClientCredentials) → IsOf (client_credentials_doc f) (value_of (named client_credentials_flow))
client_credentials_of_kind f =
    table_of_kind _ _
    (next_row (option_of_kind text_of text text_of_kind f.refresh_url)
    (next_row (scopes_member_of_kind f.scopes)
    (next_row (text_of_kind f.token_url) no_rows)))
    (extends_of_kind (option_map extensions_view f.extensions))

-- ---- the flow by an authorization code

-- the flow with its URLs and scopes, and nothing else
abbrev pub made_authorization_code : String Global → String Global → Option (String Global) → Scopes → AuthorizationCode
made_authorization_code authorization_url token_url refresh_url scopes = record { authorization_url = authorization_url; token_url = token_url; refresh_url = refresh_url; scopes = scopes; extensions = None }

-- the flow's members as a document
abbrev pub authorization_code_doc : AuthorizationCode → Doc
authorization_code_doc f =
    table_doc authorization_code_flow
    (doc (text_of f.authorization_url)
    (doc (option_of text_of f.refresh_url)
    (doc (scopes_member f.scopes)
    (doc (text_of f.token_url) no_docs))))
    (option_map extensions_view f.extensions)

-- the flow's members are an object of their type
pub authorization_code_of_kind : (f : AuthorizationCode) → IsOf (authorization_code_doc f) (value_of (named authorization_code_flow))
authorization_code_of_kind f =
    table_of_kind _ _
    (next_row (text_of_kind f.authorization_url)
    (next_row (option_of_kind text_of text text_of_kind f.refresh_url)
    (next_row (scopes_member_of_kind f.scopes)
    (next_row (text_of_kind f.token_url) no_rows))))
    (extends_of_kind (option_map extensions_view f.extensions))

-- ---- the flow of devices without a browser, from OpenAPI 3.2 on

-- the flow with its URLs and scopes, and nothing else
abbrev pub made_device_authorization : String Global → String Global → Option (String Global) → Scopes → DeviceAuthorization
made_device_authorization device_authorization_url token_url refresh_url scopes = record { device_authorization_url = device_authorization_url; token_url = token_url; refresh_url = refresh_url; scopes = scopes; extensions = None }

-- the flow's members as a document
abbrev pub device_authorization_doc : DeviceAuthorization → Doc
device_authorization_doc f =
    table_doc device_authorization_flow
    (doc (text_of f.device_authorization_url)
    (doc (option_of text_of f.refresh_url)
    (doc (scopes_member f.scopes)
    (doc (text_of f.token_url) no_docs))))
    (option_map extensions_view f.extensions)

-- the flow's members are an object of their type
pub device_authorization_of_kind : (f : DeviceAuthorization) → IsOf (device_authorization_doc f) (value_of (named device_authorization_flow))
device_authorization_of_kind f =
    table_of_kind _ _
    (next_row (text_of_kind f.device_authorization_url)
    (next_row (option_of_kind text_of text text_of_kind f.refresh_url)
    (next_row (scopes_member_of_kind f.scopes)
    (next_row (text_of_kind f.token_url) no_rows))))
    (extends_of_kind (option_map extensions_view f.extensions))
