-- For users of the model, and for whoever checks it: which field of a type stands in its document under which name.
-- The page `Members` of utoipa_base says how these theorems are read and cited.
use Rattle.std.specs.Prelude.{◌≡◌, refl, [], ◌∷◌, codes, Option, String}
use Rattle.std.specs.declared.alloc.Global.{Global}
use Rattle.utoipa_base.specs.Docs.{word_doc}
use Rattle.utoipa_base.specs.Flags.{deprecated_doc}
use Rattle.utoipa_base.specs.Members.{member, members_in, members_by_word}
use Rattle.utoipa_base.specs.Views.{text_of, option_of}
use Rattle.utoipa_base.specs.declared.deprecated.Deprecated.{Deprecated}
use Rattle.utoipa_base.specs.declared.extensions.Extensions.{Extensions}
use Rattle.utoipa_security.specs.ApiKey.{api_key_doc, api_key_value_doc}
use Rattle.utoipa_security.specs.Flows.{implicit_doc, password_doc, client_credentials_doc, authorization_code_doc, device_authorization_doc}
use Rattle.utoipa_security.specs.Http.{auth_scheme_doc, http_doc}
use Rattle.utoipa_security.specs.OAuth.{flow_key, flows_doc, oauth2_doc}
use Rattle.utoipa_security.specs.OpenIdConnect.{open_id_connect_doc}
use Rattle.utoipa_security.specs.Schemes.{scheme_doc}
use Rattle.utoipa_security.specs.Scopes.{scopes_doc, scopes_member}
use Rattle.utoipa_security.specs.declared.security.api_key.ApiKey.{ApiKey}
use Rattle.utoipa_security.specs.declared.security.api_key.ApiKey.TheVariants as keys
use Rattle.utoipa_security.specs.declared.security.api_key.ApiKeyValue.{ApiKeyValue}
use Rattle.utoipa_security.specs.declared.security.flow.Implicit.{Implicit}
use Rattle.utoipa_security.specs.declared.security.flow.Password.{Password}
use Rattle.utoipa_security.specs.declared.security.flow.ClientCredentials.{ClientCredentials}
use Rattle.utoipa_security.specs.declared.security.flow.AuthorizationCode.{AuthorizationCode}
use Rattle.utoipa_security.specs.declared.security.flow.DeviceAuthorization.{DeviceAuthorization}
use Rattle.utoipa_security.specs.declared.security.flows.Flow.TheVariants as flows
use Rattle.utoipa_security.specs.declared.security.http.Http.{Http}
use Rattle.utoipa_security.specs.declared.security.oauth2.OAuth2.{OAuth2}
use Rattle.utoipa_security.specs.declared.security.open_id_connect.OpenIdConnect.{OpenIdConnect}
use Rattle.utoipa_security.specs.declared.security.scheme.SecurityScheme.TheVariants as schemes
use Rattle.utoipa_security.specs.declared.security.scopes.Scopes.{Scopes}

-- ---- security schemes, each with its type

-- Security Scheme Object: section 4.8.27
pub oauth2_scheme_members : (s : OAuth2) → members_by_word (scheme_doc (schemes.OAuth2 s)) ≡
    member "type" (word_doc (codes "oauth2")) ∷ members_in (oauth2_doc s)
oauth2_scheme_members s = refl

pub api_key_scheme_members : (k : ApiKey) → members_by_word (scheme_doc (schemes.ApiKey k)) ≡
    member "type" (word_doc (codes "apiKey")) ∷ members_by_word (api_key_doc k)
api_key_scheme_members k = refl

pub http_scheme_members : (s : Http) → members_by_word (scheme_doc (schemes.Http s)) ≡
    member "type" (word_doc (codes "http")) ∷ members_in (http_doc s)
http_scheme_members s = refl

pub open_id_connect_scheme_members : (s : OpenIdConnect) → members_by_word (scheme_doc (schemes.OpenIdConnect s)) ≡
    member "type" (word_doc (codes "openIdConnect")) ∷ members_in (open_id_connect_doc s)
open_id_connect_scheme_members s = refl

-- Security Scheme Object, `mutualTLS`
pub mutual_tls_members : (description : Option (String Global)) (deprecated : Option Deprecated) (extensions : Option Extensions) → members_by_word (scheme_doc (schemes.MutualTls description deprecated extensions)) ≡
    member "type" (word_doc (codes "mutualTLS"))
    ∷ member "deprecated" (option_of deprecated_doc deprecated)
    ∷ member "description" (option_of text_of description) ∷ []
mutual_tls_members description deprecated extensions = refl

-- Security Scheme Object, `apiKey`: the place of the key
pub header_key_members : (v : ApiKeyValue) → members_by_word (api_key_doc (keys.Header v)) ≡
    member "in" (word_doc (codes "header")) ∷ members_in (api_key_value_doc v)
header_key_members v = refl

pub query_key_members : (v : ApiKeyValue) → members_by_word (api_key_doc (keys.Query v)) ≡
    member "in" (word_doc (codes "query")) ∷ members_in (api_key_value_doc v)
query_key_members v = refl

pub cookie_key_members : (v : ApiKeyValue) → members_by_word (api_key_doc (keys.Cookie v)) ≡
    member "in" (word_doc (codes "cookie")) ∷ members_in (api_key_value_doc v)
cookie_key_members v = refl

-- ---- the other members of a security scheme

-- Security Scheme Object, `oauth2`
pub oauth2_members : (s : OAuth2) → members_in (oauth2_doc s) ≡
    member "deprecated" (option_of deprecated_doc s.deprecated)
    ∷ member "description" (option_of text_of s.description)
    ∷ member "flows" (flows_doc s.flows)
    ∷ member "oauth2MetadataUrl" (option_of text_of s.oauth2_metadata_url) ∷ []
oauth2_members s = refl

-- Security Scheme Object, `apiKey`
pub api_key_members : (s : ApiKeyValue) → members_in (api_key_value_doc s) ≡
    member "deprecated" (option_of deprecated_doc s.deprecated)
    ∷ member "description" (option_of text_of s.description)
    ∷ member "name" (text_of s.name) ∷ []
api_key_members s = refl

-- Security Scheme Object, `http`
pub http_members : (s : Http) → members_in (http_doc s) ≡
    member "bearerFormat" (option_of text_of s.bearer_format)
    ∷ member "deprecated" (option_of deprecated_doc s.deprecated)
    ∷ member "description" (option_of text_of s.description)
    ∷ member "scheme" (auth_scheme_doc s.scheme) ∷ []
http_members s = refl

-- Security Scheme Object, `openIdConnect`
pub open_id_connect_members : (s : OpenIdConnect) → members_in (open_id_connect_doc s) ≡
    member "deprecated" (option_of deprecated_doc s.deprecated)
    ∷ member "description" (option_of text_of s.description)
    ∷ member "openIdConnectUrl" (text_of s.open_id_connect_url) ∷ []
open_id_connect_members s = refl

-- ---- OAuth flows

-- OAuth Flows Object: section 4.8.28. The member of each flow
pub implicit_key : (f : Implicit) → flow_key (flows.Implicit f) ≡ codes "implicit"
implicit_key f = refl

pub password_key : (f : Password) → flow_key (flows.Password f) ≡ codes "password"
password_key f = refl

pub client_credentials_key : (f : ClientCredentials) → flow_key (flows.ClientCredentials f) ≡ codes "clientCredentials"
client_credentials_key f = refl

pub authorization_code_key : (f : AuthorizationCode) → flow_key (flows.AuthorizationCode f) ≡ codes "authorizationCode"
authorization_code_key f = refl

pub device_authorization_key : (f : DeviceAuthorization) → flow_key (flows.DeviceAuthorization f) ≡ codes "deviceAuthorization"
device_authorization_key f = refl

-- OAuth Flow Object: section 4.8.29, `implicit`
pub implicit_members : (f : Implicit) → members_in (implicit_doc f) ≡
    member "authorizationUrl" (text_of f.authorization_url)
    ∷ member "refreshUrl" (option_of text_of f.refresh_url)
    ∷ member "scopes" (scopes_member f.scopes) ∷ []
implicit_members f = refl

-- OAuth Flow Object, `password`
pub password_members : (f : Password) → members_in (password_doc f) ≡
    member "refreshUrl" (option_of text_of f.refresh_url)
    ∷ member "scopes" (scopes_member f.scopes)
    ∷ member "tokenUrl" (text_of f.token_url) ∷ []
password_members f = refl

-- OAuth Flow Object, `clientCredentials`
pub client_credentials_members : (f : ClientCredentials) → members_in (client_credentials_doc f) ≡
    member "refreshUrl" (option_of text_of f.refresh_url)
    ∷ member "scopes" (scopes_member f.scopes)
    ∷ member "tokenUrl" (text_of f.token_url) ∷ []
client_credentials_members f = refl

-- OAuth Flow Object, `authorizationCode`
pub authorization_code_members : (f : AuthorizationCode) → members_in (authorization_code_doc f) ≡
    member "authorizationUrl" (text_of f.authorization_url)
    ∷ member "refreshUrl" (option_of text_of f.refresh_url)
    ∷ member "scopes" (scopes_member f.scopes)
    ∷ member "tokenUrl" (text_of f.token_url) ∷ []
authorization_code_members f = refl

-- OAuth Flow Object, `deviceAuthorization`, from 3.2
pub device_authorization_members : (f : DeviceAuthorization) → members_in (device_authorization_doc f) ≡
    member "deviceAuthorizationUrl" (text_of f.device_authorization_url)
    ∷ member "refreshUrl" (option_of text_of f.refresh_url)
    ∷ member "scopes" (scopes_member f.scopes)
    ∷ member "tokenUrl" (text_of f.token_url) ∷ []
device_authorization_members f = refl

-- the member `scopes` of an OAuth Flow Object, by itself
pub scopes_members : (s : Scopes) → members_in (scopes_doc s) ≡
    member "scopes" (scopes_member s) ∷ []
scopes_members s = refl
