-- The documents of OAuth flows under their keys, and of OAuth schemes.
use Rattle.std.specs.Prelude.{◌≡◌, ℕ, List, [], ◌∷◌, Bool, true, false, if◌then◌else◌, Option, None, option_map, map, refl, String, string_bytes}
use Rattle.std.specs.BTreeMap.{BTreeMap, insert_entry}
use Rattle.std.specs.Cmp.Lexicographic.{slice_cmp}
use Rattle.std.specs.Ordering.{nat_cmp}
use Rattle.std.specs.declared.alloc.Global.{Global}
use Rattle.serde_json.specs.Data.{Data}
use Rattle.utoipa_base.specs.Choices.{chosen, flow_keys}
use Rattle.utoipa_base.specs.Docs.{Doc, flow_doc, table_doc, no_docs, doc}
use Rattle.utoipa_base.specs.Extensions.{extensions_view}
use Rattle.utoipa_base.specs.Flags.{deprecated_doc}
use Rattle.utoipa_base.specs.Kinds.{ObjectType, named, text, flag, flows, oauth2_scheme, implicit_flow, password_flow, client_credentials_flow, authorization_code_flow, device_authorization_flow}
use Rattle.utoipa_base.specs.Lists.{GivesAll}
use Rattle.utoipa_base.specs.OfKind.{text_of_kind, option_of_kind, deprecated_of_kind, extends_of_kind, entries_of_kind, table_of_kind, next_row, no_rows}
use Rattle.utoipa_base.specs.Reading.{reader, read_flow}
use Rattle.utoipa_base.specs.Shape.{IsOf, value_of, flow_place}
use Rattle.utoipa_base.specs.Views.{text_of, option_of, map_of_docs}
use Rattle.utoipa_security.specs.Flows as tables
use Rattle.utoipa_security.specs.declared.security.flows.Flow.{Flow}
use Rattle.utoipa_security.specs.declared.security.flows.Flow.TheVariants as made
use Rattle.utoipa_security.specs.declared.security.flows.FlowKind.{FlowKind}
use Rattle.utoipa_security.specs.declared.security.flows.FlowKind.TheVariants as kinds
use Rattle.utoipa_security.specs.declared.security.oauth2.OAuth2.{OAuth2}

-- ---- a flow

-- the members of a flow as a document
abbrev pub flow_object : Flow → Doc
flow_object (made.Implicit f) = tables.implicit_doc f
flow_object (made.Password f) = tables.password_doc f
flow_object (made.ClientCredentials f) = tables.client_credentials_doc f
flow_object (made.AuthorizationCode f) = tables.authorization_code_doc f
flow_object (made.DeviceAuthorization f) = tables.device_authorization_doc f

-- a flow as a document
abbrev pub flow_view : Flow → Doc
flow_view f = flow_doc (flow_object f)

-- the object type of a kind of flows
abbrev pub flow_type : FlowKind → ObjectType
flow_type kinds.Implicit = implicit_flow
flow_type kinds.Password = password_flow
flow_type kinds.ClientCredentials = client_credentials_flow
flow_type kinds.AuthorizationCode = authorization_code_flow
flow_type kinds.DeviceAuthorization = device_authorization_flow

-- whether two object types are one of the flows
abbrev pub same_flow : ObjectType → ObjectType → Bool
same_flow implicit_flow implicit_flow = true
same_flow password_flow password_flow = true
same_flow client_credentials_flow client_credentials_flow = true
same_flow authorization_code_flow authorization_code_flow = true
same_flow device_authorization_flow device_authorization_flow = true
same_flow n m = false

-- the key that stands beside an object type
abbrev pub key_beside : ObjectType → List (List ℕ × ObjectType) → List ℕ
key_beside n [] = []
key_beside n (k ∷ ks) = if same_flow n k.1 then k.0 else key_beside n ks

-- the key under which an object stands among flows
abbrev pub object_key : Doc → List ℕ
object_key (table_doc n ds e) = key_beside n flow_keys
object_key d = []

-- the key under which a flow stands
abbrev pub flow_key : Flow → List ℕ
flow_key f = object_key (flow_object f)

-- the flow that a tree under a key is
abbrev pub flow_read : List ℕ → Data → Option Doc
flow_read key d = read_flow (chosen key flow_keys) (reader d)

-- the flow that a tree under any other key is
abbrev pub any_flow_read : Data → Option Doc
any_flow_read d = read_flow None (reader d)

-- a flow may stand among flows
pub flow_of_place : (f : Flow) → IsOf (flow_view f) flow_place
unfolding IsOf
flow_of_place (made.Implicit f) = (implicit_flow, refl, (flow_key (made.Implicit f), refl), tables.implicit_of_kind f)
flow_of_place (made.Password f) = (password_flow, refl, (flow_key (made.Password f), refl), tables.password_of_kind f)
flow_of_place (made.ClientCredentials f) = (client_credentials_flow, refl, (flow_key (made.ClientCredentials f), refl), tables.client_credentials_of_kind f)
flow_of_place (made.AuthorizationCode f) = (authorization_code_flow, refl, (flow_key (made.AuthorizationCode f), refl), tables.authorization_code_of_kind f)
flow_of_place (made.DeviceAuthorization f) = (device_authorization_flow, refl, (flow_key (made.DeviceAuthorization f), refl), tables.device_authorization_of_kind f)

-- ---- flows

-- flows under their keys as a document
abbrev pub flows_doc : BTreeMap (String Global) Flow → Doc
flows_doc m = map_of_docs flow_view m

-- flows are a map of flows
pub flows_of_kind : (m : BTreeMap (String Global) Flow) → IsOf (flows_doc m) (value_of flows)
unfolding IsOf
flows_of_kind m = (flow_place, refl, entries_of_kind flow_view flow_place flow_of_place m.entries)

-- flows by the texts of their keys
abbrev pub by_key : List (String Global × Flow) → List (List ℕ × Flow)
by_key es = map (λ e. (string_bytes e.0, e.1)) es

-- the flows, with each of some put under its key in turn, so that the later of two of one kind stays
abbrev pub put_flows : List Flow → List (List ℕ × Flow) → List (List ℕ × Flow)
put_flows [] es = es
put_flows (f ∷ fs) es = put_flows fs (insert_entry (slice_cmp nat_cmp) es (flow_key f) f)

-- a map holds each of some flows under its key, and the later of two of one kind
abbrev pub IsKeyedFrom : {C S : Type 0} → (C → S → Type 0) → (S → Option Flow → S → Type 0) → C → BTreeMap (String Global) Flow → Type 0
IsKeyedFrom into gives items m = (given : List Flow) × GivesAll into gives items given × (by_key m.entries ≡ put_flows given [])

-- ---- a scheme by OAuth

-- a scheme by OAuth with flows and a description, if any, and nothing else
abbrev pub made_oauth2 : BTreeMap (String Global) Flow → Option (String Global) → OAuth2
made_oauth2 held description = record { flows = held; oauth2_metadata_url = None; description = description; deprecated = None; extensions = None }

-- a scheme by OAuth as a document
abbrev pub oauth2_doc : OAuth2 → Doc
oauth2_doc s =
    table_doc oauth2_scheme
    (doc (option_of deprecated_doc s.deprecated)
    (doc (option_of text_of s.description)
    (doc (flows_doc s.flows)
    (doc (option_of text_of s.oauth2_metadata_url) no_docs))))
    (option_map extensions_view s.extensions)

-- a scheme by OAuth is an object of its type
pub oauth2_of_kind : (s : OAuth2) → IsOf (oauth2_doc s) (value_of (named oauth2_scheme))
oauth2_of_kind s =
    table_of_kind _ _
    (next_row (option_of_kind deprecated_doc flag deprecated_of_kind s.deprecated)
    (next_row (option_of_kind text_of text text_of_kind s.description)
    (next_row (flows_of_kind s.flows)
    (next_row (option_of_kind text_of text text_of_kind s.oauth2_metadata_url) no_rows))))
    (extends_of_kind (option_map extensions_view s.extensions))
