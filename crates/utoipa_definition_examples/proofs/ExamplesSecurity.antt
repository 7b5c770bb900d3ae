-- Examples of security: schemes by their type, API keys by their place, flows by their key.
use Rattle.std.specs.Prelude.{◌≡◌, [], ◌∷◌, true, codes, None, Some, refl}
use Rattle.serde_json.specs.Data.{boolean}
use Rattle.utoipa_base.specs.Kinds.{api_key_scheme, mutual_tls_scheme, oauth2_scheme, implicit_flow, password_flow, client_credentials_flow, authorization_code_flow, scopes_object, named, security_scheme, api_key, flows}
use Rattle.utoipa_base.specs.Docs.{text_doc, some_doc, tagged_doc, flow_doc, map_doc}
use Rattle.utoipa_base.specs.Tables.{security_requirement}
use Rattle.utoipa_base.specs.Reading.{reader}
use Rattle.utoipa_base.specs.Writing.{write}
use Rattle.utoipa_base.specs.WellFormed.{IsUnambiguous}
use Rattle.utoipa_definition_examples.proofs.ExampleTrees.{members, members_of, list, str, num, Prints, Keeps, IsRefused, IsReadAs, built, entries}

-- ---- Security Scheme Object

-- client credentials under their key
client_credentials : Keeps security_scheme (members (("flows", members (("clientCredentials", members (("scopes", members []) ∷ ("tokenUrl", str "t") ∷ [])) ∷ [])) ∷ ("type", str "oauth2") ∷ []))
unfolding reader write
client_credentials = refl

-- the key says which flow it is
client_credentials_are : IsReadAs security_scheme (members (("flows", members (("clientCredentials", members (("scopes", members []) ∷ ("tokenUrl", str "t") ∷ [])) ∷ [])) ∷ ("type", str "oauth2") ∷ [])) (tagged_doc (codes "type") (codes "oauth2") (built oauth2_scheme (("flows", map_doc (entries (("clientCredentials", flow_doc (built client_credentials_flow (("tokenUrl", text_doc (codes "t")) ∷ []) None)) ∷ []))) ∷ []) None))
unfolding reader
client_credentials_are = refl

-- a word that is no type of scheme is refused
unknown_scheme : IsRefused security_scheme (members (("type", str "oauth3") ∷ []))
unfolding reader
unknown_scheme = refl

-- no API key stands in the path
api_key_in_path : IsRefused security_scheme (members (("in", str "path") ∷ ("name", str "k") ∷ ("type", str "apiKey") ∷ []))
unfolding reader
api_key_in_path = refl

-- a scheme has a type
scheme_without_type : IsRefused security_scheme (members (("name", str "k") ∷ []))
unfolding reader
scheme_without_type = refl

-- the type of a scheme is a text
scheme_number_type : IsRefused security_scheme (members (("type", num 5) ∷ []))
unfolding reader
scheme_number_type = refl

-- an API key has a place
api_key_without_place : IsRefused security_scheme (members (("name", str "k") ∷ ("type", str "apiKey") ∷ []))
unfolding reader
api_key_without_place = refl

-- an API key in a header
api_key_header : Keeps security_scheme (members (("in", str "header") ∷ ("name", str "api_key") ∷ ("type", str "apiKey") ∷ []))
unfolding reader write
api_key_header = refl

-- an API key in the query
api_key_query : Keeps security_scheme (members (("in", str "query") ∷ ("name", str "api_key") ∷ ("type", str "apiKey") ∷ []))
unfolding reader write
api_key_query = refl

-- an API key in a cookie
api_key_cookie : Keeps security_scheme (members (("in", str "cookie") ∷ ("name", str "api_key") ∷ ("type", str "apiKey") ∷ []))
unfolding reader write
api_key_cookie = refl

-- an API key by itself ignores `type`
api_key_by_itself : IsReadAs api_key (members (("in", str "header") ∷ ("name", str "k") ∷ ("type", str "http") ∷ [])) (tagged_doc (codes "in") (codes "header") (built api_key_scheme (("name", text_doc (codes "k")) ∷ []) None))
unfolding reader
api_key_by_itself = refl

-- the HTTP scheme basic
http_basic : Keeps security_scheme (members (("scheme", str "basic") ∷ ("type", str "http") ∷ []))
unfolding reader write
http_basic = refl

-- the HTTP scheme bearer
http_bearer : Keeps security_scheme (members (("scheme", str "bearer") ∷ ("type", str "http") ∷ []))
unfolding reader write
http_bearer = refl

-- the HTTP scheme digest
http_digest : Keeps security_scheme (members (("scheme", str "digest") ∷ ("type", str "http") ∷ []))
unfolding reader write
http_digest = refl

-- the HTTP scheme hoba
http_hoba : Keeps security_scheme (members (("scheme", str "hoba") ∷ ("type", str "http") ∷ []))
unfolding reader write
http_hoba = refl

-- the HTTP scheme mutual
http_mutual : Keeps security_scheme (members (("scheme", str "mutual") ∷ ("type", str "http") ∷ []))
unfolding reader write
http_mutual = refl

-- the HTTP scheme negotiate
http_negotiate : Keeps security_scheme (members (("scheme", str "negotiate") ∷ ("type", str "http") ∷ []))
unfolding reader write
http_negotiate = refl

-- the HTTP scheme oauth
http_oauth : Keeps security_scheme (members (("scheme", str "oauth") ∷ ("type", str "http") ∷ []))
unfolding reader write
http_oauth = refl

-- the HTTP scheme scram-sha-1
http_scram_sha_1 : Keeps security_scheme (members (("scheme", str "scram-sha-1") ∷ ("type", str "http") ∷ []))
unfolding reader write
http_scram_sha_1 = refl

-- the HTTP scheme scram-sha-256
http_scram_sha_256 : Keeps security_scheme (members (("scheme", str "scram-sha-256") ∷ ("type", str "http") ∷ []))
unfolding reader write
http_scram_sha_256 = refl

-- the HTTP scheme vapid
http_vapid : Keeps security_scheme (members (("scheme", str "vapid") ∷ ("type", str "http") ∷ []))
unfolding reader write
http_vapid = refl

-- the format of a bearer token
http_bearer_format : Keeps security_scheme (members (("bearerFormat", str "JWT") ∷ ("scheme", str "bearer") ∷ ("type", str "http") ∷ []))
unfolding reader write
http_bearer_format = refl

-- OpenID Connect by its URL
open_id : Keeps security_scheme (members (("openIdConnectUrl", str "https://localhost/openid") ∷ ("type", str "openIdConnect") ∷ []))
unfolding reader write
open_id = refl

-- mutual TLS with a description
mutual_tls : Keeps security_scheme (members (("description", str "d") ∷ ("type", str "mutualTLS") ∷ []))
unfolding reader write
mutual_tls = refl

-- a scheme keeps extensions and drops the members of other types
mutual_tls_extension : Prints security_scheme (members (("deprecated", boolean true) ∷ ("name", str "k") ∷ ("type", str "mutualTLS") ∷ ("x-a", num 1) ∷ [])) (members (("deprecated", boolean true) ∷ ("type", str "mutualTLS") ∷ ("x-a", num 1) ∷ []))
unfolding reader write
mutual_tls_extension = refl

-- OAuth 2.0 with a description and a flow
password_scheme : Keeps security_scheme (members (("description", str "f") ∷ ("flows", members (("password", members (("refreshUrl", str "r") ∷ ("scopes", members (("a", str "b") ∷ [])) ∷ ("tokenUrl", str "t") ∷ [])) ∷ [])) ∷ ("type", str "oauth2") ∷ []))
unfolding reader write
password_scheme = refl

-- the metadata URL of OAuth 2.0
metadata_url : Keeps security_scheme (members (("flows", members []) ∷ ("oauth2MetadataUrl", str "m") ∷ ("type", str "oauth2") ∷ []))
unfolding reader write
metadata_url = refl

-- the type of a scheme is written, whatever its extensions say
tag_wins : write (tagged_doc (codes "type") (codes "mutualTLS") (built mutual_tls_scheme [] (Some (members_of (("type", str "x") ∷ ("x-a", num 1) ∷ []))))) ≡ members (("type", str "mutualTLS") ∷ ("x-a", num 1) ∷ [])
unfolding write
tag_wins = refl

-- and so is the place of an API key
both_tags_win : write (tagged_doc (codes "type") (codes "apiKey") (tagged_doc (codes "in") (codes "query") (built api_key_scheme (("name", text_doc (codes "k")) ∷ []) (Some (members_of (("in", num 1) ∷ ("name", num 2) ∷ ("type", num 3) ∷ [])))))) ≡ members (("in", str "query") ∷ ("name", str "k") ∷ ("type", str "apiKey") ∷ [])
unfolding write
both_tags_win = refl

-- ---- OAuth Flows Object

-- an authorization code flow under its key
authorization_code : write (tagged_doc (codes "type") (codes "oauth2") (built oauth2_scheme (("flows", map_doc (entries (("authorizationCode", flow_doc (built authorization_code_flow (("authorizationUrl", text_doc (codes "https://localhost/authorization/token")) ∷ ("tokenUrl", text_doc (codes "https://localhost/token/url")) ∷ ("refreshUrl", some_doc (text_doc (codes "https://localhost/refresh/token"))) ∷ []) None)) ∷ []))) ∷ []) None)) ≡ members (("flows", members (("authorizationCode", members (("authorizationUrl", str "https://localhost/authorization/token") ∷ ("refreshUrl", str "https://localhost/refresh/token") ∷ ("scopes", members []) ∷ ("tokenUrl", str "https://localhost/token/url") ∷ [])) ∷ [])) ∷ ("type", str "oauth2") ∷ [])
unfolding write
authorization_code = refl

-- and it reads back as itself
authorization_code_back : IsReadAs security_scheme (write (tagged_doc (codes "type") (codes "oauth2") (built oauth2_scheme (("flows", map_doc (entries (("authorizationCode", flow_doc (built authorization_code_flow (("authorizationUrl", text_doc (codes "https://localhost/authorization/token")) ∷ ("tokenUrl", text_doc (codes "https://localhost/token/url")) ∷ ("refreshUrl", some_doc (text_doc (codes "https://localhost/refresh/token"))) ∷ []) None)) ∷ []))) ∷ []) None))) (tagged_doc (codes "type") (codes "oauth2") (built oauth2_scheme (("flows", map_doc (entries (("authorizationCode", flow_doc (built authorization_code_flow (("authorizationUrl", text_doc (codes "https://localhost/authorization/token")) ∷ ("tokenUrl", text_doc (codes "https://localhost/token/url")) ∷ ("refreshUrl", some_doc (text_doc (codes "https://localhost/refresh/token"))) ∷ []) None)) ∷ []))) ∷ []) None))
unfolding reader write
authorization_code_back = refl

-- under another key the first kind that fits is read
other_key : IsReadAs flows (members (("k", members (("authorizationUrl", str "a") ∷ ("scopes", members []) ∷ ("tokenUrl", str "t") ∷ [])) ∷ [])) (map_doc (entries (("k", flow_doc (built implicit_flow (("authorizationUrl", text_doc (codes "a")) ∷ []) None)) ∷ [])))
unfolding reader
other_key = refl

-- and it is written without the token URL
other_key_prints : Prints flows (members (("k", members (("authorizationUrl", str "a") ∷ ("scopes", members []) ∷ ("tokenUrl", str "t") ∷ [])) ∷ [])) (members (("k", members (("authorizationUrl", str "a") ∷ ("scopes", members []) ∷ [])) ∷ []))
unfolding reader write
other_key_prints = refl

-- under another key a token URL alone is a password flow
other_key_password : IsReadAs flows (members (("x-k", members (("scopes", members []) ∷ ("tokenUrl", str "t") ∷ [])) ∷ [])) (map_doc (entries (("x-k", flow_doc (built password_flow (("tokenUrl", text_doc (codes "t")) ∷ []) None)) ∷ [])))
unfolding reader
other_key_password = refl

-- a device authorization flow under another key has a token URL, so it is a password flow too
other_key_device : IsReadAs flows (members (("k", members (("deviceAuthorizationUrl", str "d") ∷ ("scopes", members []) ∷ ("tokenUrl", str "t") ∷ [])) ∷ [])) (map_doc (entries (("k", flow_doc (built password_flow (("tokenUrl", text_doc (codes "t")) ∷ []) None)) ∷ [])))
unfolding reader
other_key_device = refl

-- a flow of no kind is refused
other_key_none : IsRefused flows (members (("k", members (("scopes", members []) ∷ [])) ∷ []))
unfolding reader
other_key_none = refl

-- under a known key that kind alone is tried
known_key_other_kind : IsRefused flows (members (("implicit", members (("scopes", members []) ∷ ("tokenUrl", str "t") ∷ [])) ∷ []))
unfolding reader
known_key_other_kind = refl

-- the flow implicit under its key
flow_implicit : Keeps flows (members (("implicit", members (("authorizationUrl", str "a") ∷ ("scopes", members []) ∷ [])) ∷ []))
unfolding reader write
flow_implicit = refl

-- the flow password under its key
flow_password : Keeps flows (members (("password", members (("scopes", members (("a", str "b") ∷ [])) ∷ ("tokenUrl", str "t") ∷ [])) ∷ []))
unfolding reader write
flow_password = refl

-- the flow deviceAuthorization under its key
flow_device_authorization : Keeps flows (members (("deviceAuthorization", members (("deviceAuthorizationUrl", str "d") ∷ ("refreshUrl", str "r") ∷ ("scopes", members []) ∷ ("tokenUrl", str "t") ∷ ("x-a", num 1) ∷ [])) ∷ []))
unfolding reader write
flow_device_authorization = refl

-- a flow has scopes
scopes_missing : IsRefused flows (members (("password", members (("tokenUrl", str "t") ∷ [])) ∷ []))
unfolding reader
scopes_missing = refl

-- scopes by themselves
scopes_by_themselves : Keeps (named scopes_object) (members (("scopes", members (("read:items", str "read") ∷ [])) ∷ []))
unfolding reader write
scopes_by_themselves = refl

-- an implicit flow under the key of another kind is written there
implicit_under_password : write (map_doc (entries (("password", flow_doc (built implicit_flow (("authorizationUrl", text_doc (codes "a")) ∷ []) None)) ∷ []))) ≡ members (("password", members (("authorizationUrl", str "a") ∷ ("scopes", members []) ∷ [])) ∷ [])
unfolding write
implicit_under_password = refl

-- and refused when it is read
implicit_under_password_refused : IsRefused flows (write (map_doc (entries (("password", flow_doc (built implicit_flow (("authorizationUrl", text_doc (codes "a")) ∷ []) None)) ∷ []))))
unfolding reader write
implicit_under_password_refused = refl

-- it is not well-formed
implicit_under_password_ill-formed : IsUnambiguous (map_doc (entries (("password", flow_doc (built implicit_flow (("authorizationUrl", text_doc (codes "a")) ∷ []) None)) ∷ []))) → ⊥
unfolding IsUnambiguous
implicit_under_password_ill-formed t = let e = t.1 in cc

-- an implicit flow under another key reads back as itself
other_key_back : IsReadAs flows (write (map_doc (entries (("k", flow_doc (built implicit_flow (("authorizationUrl", text_doc (codes "a")) ∷ []) None)) ∷ [])))) (map_doc (entries (("k", flow_doc (built implicit_flow (("authorizationUrl", text_doc (codes "a")) ∷ []) None)) ∷ [])))
unfolding reader write
other_key_back = refl

-- yet it is not well-formed, since its key is no word of its kind
other_key_ill-formed : IsUnambiguous (map_doc (entries (("k", flow_doc (built implicit_flow (("authorizationUrl", text_doc (codes "a")) ∷ []) None)) ∷ []))) → ⊥
unfolding IsUnambiguous
other_key_ill-formed t = let e = t.1 in cc

-- under its own key it is
own_key_well-formed : IsUnambiguous (map_doc (entries (("implicit", flow_doc (built implicit_flow (("authorizationUrl", text_doc (codes "a")) ∷ []) None)) ∷ [])))
unfolding IsUnambiguous write
own_key_well-formed = (((tt, (tt, (tt, tt))), refl), refl, tt)

-- ---- Security Requirement Object

-- every member of a requirement is an entry
requirement : Keeps security_requirement (members (("a", list (str "s" ∷ [])) ∷ ("x-b", list []) ∷ []))
unfolding reader write
requirement = refl

-- the empty requirement
requirement_empty : Keeps security_requirement (members [])
unfolding reader write
requirement_empty = refl
