-- The choices that a member's text or a key decides.
use Rattle.std.specs.Prelude.{◌≡◌, ℕ, List, [], ◌∷◌, Bool, true, false, if◌then◌else◌, Option, None, Some, codes}
use Rattle.std.specs.Str.{bytes_eq}
use Rattle.utoipa_base.specs.Kinds.{ObjectType, one_of_schema, all_of_schema, any_of_schema, array_schema, object_schema, api_key_scheme, http_scheme, open_id_connect_scheme, mutual_tls_scheme, oauth2_scheme, implicit_flow, password_flow, client_credentials_flow, authorization_code_flow, device_authorization_flow, Kind, named, api_key}

-- what stands beside a word
abbrev pub chosen : {A : Type 0} → List ℕ → List (List ℕ × A) → Option A
chosen word [] = None
chosen word (c ∷ cs) = if bytes_eq word c.0 then Some c.1 else chosen word cs

-- Security Scheme Object: section 4.8.27, by its member `type`
abbrev pub scheme_types : List (List ℕ × Kind)
scheme_types =
    (codes "oauth2", named oauth2_scheme)
    ∷ (codes "apiKey", api_key)
    ∷ (codes "http", named http_scheme)
    ∷ (codes "openIdConnect", named open_id_connect_scheme)
    ∷ (codes "mutualTLS", named mutual_tls_scheme) ∷ []

-- an API key, by its member `in`
abbrev pub api_key_places : List (List ℕ × Kind)
api_key_places = (codes "header", named api_key_scheme) ∷ (codes "query", named api_key_scheme) ∷ (codes "cookie", named api_key_scheme) ∷ []

-- OAuth Flows Object: section 4.8.28, by its keys
abbrev pub flow_keys : List (List ℕ × ObjectType)
flow_keys =
    (codes "implicit", implicit_flow)
    ∷ (codes "password", password_flow)
    ∷ (codes "clientCredentials", client_credentials_flow)
    ∷ (codes "authorizationCode", authorization_code_flow)
    ∷ (codes "deviceAuthorization", device_authorization_flow) ∷ []

-- an object type is an OAuth flow: some key chooses it
abbrev pub IsFlow : ObjectType → Type 0
IsFlow n = (key : List ℕ) × (chosen key flow_keys ≡ Some n)

-- whether an object type is an alternative of a schema
abbrev pub is_schema_type : ObjectType → Bool
is_schema_type one_of_schema = true
is_schema_type all_of_schema = true
is_schema_type any_of_schema = true
is_schema_type array_schema = true
is_schema_type object_schema = true
is_schema_type n = false

-- a schema that names none of these is an object of any value
abbrev pub schema_keywords : List (List ℕ)
schema_keywords = codes "$ref" ∷ codes "type" ∷ codes "items" ∷ codes "oneOf" ∷ codes "allOf" ∷ codes "anyOf" ∷ []
