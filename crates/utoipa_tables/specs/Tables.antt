-- What the data of the program stand for.
use Rattle.std.specs.Prelude.{ℕ, List, [], ◌∷◌, map, codes}
use Rattle.utoipa_base.specs.Kinds as specs
use Rattle.utoipa_base.specs.Tables.{row}
use Rattle.utoipa_tables.specs.declared.alternatives.FlowAlternative.{FlowAlternative}
use Rattle.utoipa_tables.specs.declared.alternatives.FlowAlternative.TheVariants as flow_alternatives
use Rattle.utoipa_tables.specs.declared.alternatives.SchemaAlternative.{SchemaAlternative}
use Rattle.utoipa_tables.specs.declared.alternatives.SchemaAlternative.TheVariants as schema_alternatives
use Rattle.utoipa_tables.specs.declared.choices.Choice.{Choice}
use Rattle.utoipa_tables.specs.declared.kinds.Kind.{Kind, Text, Flag, Whole, Numeral, Any, WordOf, Version, ListOf', MapOf', OrderedMapOf', EntriesOf', RefOr', Named, Schema, SchemaType, SchemaFormat, ArrayItems, AdditionalProperties, SecurityScheme, ApiKey, Flows}
use Rattle.utoipa_tables.specs.declared.kinds.Mark.{Mark}
use Rattle.utoipa_tables.specs.declared.kinds.Mark.TheVariants as marks
use Rattle.utoipa_tables.specs.declared.kinds.ObjectType.{ObjectType}
use Rattle.utoipa_tables.specs.declared.kinds.ObjectType.TheVariants as types
use Rattle.utoipa_tables.specs.declared.kinds.Row.{Row}
use Rattle.utoipa_tables.specs.declared.kinds.Vocabulary.{Vocabulary}
use Rattle.utoipa_tables.specs.declared.kinds.Vocabulary.TheVariants as vocabularies

-- ---- kinds

abbrev pub type_of : ObjectType → specs.ObjectType
type_of types.OpenApiObject = specs.open_api_object
type_of types.InfoObject = specs.info_object
type_of types.ContactObject = specs.contact_object
type_of types.LicenseObject = specs.license_object
type_of types.ServerObject = specs.server_object
type_of types.ServerVariableObject = specs.server_variable_object
type_of types.ComponentsObject = specs.components_object
type_of types.PathItemObject = specs.path_item_object
type_of types.OperationObject = specs.operation_object
type_of types.ExternalDocsObject = specs.external_docs_object
type_of types.ParameterObject = specs.parameter_object
type_of types.RequestBodyObject = specs.request_body_object
type_of types.MediaTypeObject = specs.media_type_object
type_of types.EncodingObject = specs.encoding_object
type_of types.ResponseObject = specs.response_object
type_of types.ExampleObject = specs.example_object
type_of types.LinkObject = specs.link_object
type_of types.HeaderObject = specs.header_object
type_of types.TagObject = specs.tag_object
type_of types.ReferenceObject = specs.reference_object
type_of types.DiscriminatorObject = specs.discriminator_object
type_of types.XmlObject = specs.xml_object
type_of types.OneOfSchema = specs.one_of_schema
type_of types.AllOfSchema = specs.all_of_schema
type_of types.AnyOfSchema = specs.any_of_schema
type_of types.ArraySchema = specs.array_schema
type_of types.ObjectSchema = specs.object_schema
type_of types.ApiKeyScheme = specs.api_key_scheme
type_of types.HttpScheme = specs.http_scheme
type_of types.OpenIdConnectScheme = specs.open_id_connect_scheme
type_of types.MutualTlsScheme = specs.mutual_tls_scheme
type_of types.Oauth2Scheme = specs.oauth2_scheme
type_of types.ImplicitFlow = specs.implicit_flow
type_of types.PasswordFlow = specs.password_flow
type_of types.ClientCredentialsFlow = specs.client_credentials_flow
type_of types.AuthorizationCodeFlow = specs.authorization_code_flow
type_of types.DeviceAuthorizationFlow = specs.device_authorization_flow
type_of types.ScopesObject = specs.scopes_object

abbrev pub vocabulary_of : Vocabulary → specs.Vocabulary
vocabulary_of vocabularies.TypeWord = specs.type_word
vocabulary_of vocabularies.KnownFormat = specs.known_format
vocabulary_of vocabularies.HttpMethod = specs.http_method
vocabulary_of vocabularies.ParameterIn = specs.parameter_in
vocabulary_of vocabularies.ParameterStyle = specs.parameter_style
vocabulary_of vocabularies.HttpAuthScheme = specs.http_auth_scheme

abbrev pub kind_of : Kind → specs.Kind
kind_of Text = specs.text
kind_of Flag = specs.flag
kind_of Whole = specs.whole
kind_of Numeral = specs.numeral
kind_of Any = specs.any
kind_of (WordOf x) = specs.word_of (vocabulary_of x)
kind_of Version = specs.version
kind_of (ListOf' p k) = specs.list_of (kind_of k)
kind_of (MapOf' p k) = specs.map_of (kind_of k)
kind_of (OrderedMapOf' p k) = specs.ordered_map_of (kind_of k)
kind_of (EntriesOf' p k) = specs.entries_of (kind_of k)
kind_of (RefOr' p k) = specs.ref_or (kind_of k)
kind_of (Named x) = specs.named (type_of x)
kind_of Schema = specs.schema
kind_of SchemaType = specs.schema_type
kind_of SchemaFormat = specs.schema_format
kind_of ArrayItems = specs.array_items
kind_of AdditionalProperties = specs.additional_properties
kind_of SecurityScheme = specs.security_scheme
kind_of ApiKey = specs.api_key
kind_of Flows = specs.flows

abbrev pub kinds_of : List Kind → List specs.Kind
kinds_of [] = []
kinds_of (k ∷ ks) = kind_of k ∷ kinds_of ks

-- ---- rows

-- a row before others, unless its mark says that it is not kept
abbrev pub and_row : Mark → List ℕ → specs.Kind → List specs.Row → List specs.Row
and_row marks.Required name k rest = row name specs.required k ∷ rest
and_row marks.Optional name k rest = row name specs.optional k ∷ rest
and_row marks.OrNull name k rest = row name specs.or_null k ∷ rest
and_row marks.Defaulted name k rest = row name specs.defaulted k ∷ rest
and_row marks.NotKept name k rest = rest

-- the rows that are kept
abbrev pub rows_of : List Row → List specs.Row
rows_of [] = []
rows_of (r ∷ rs) = and_row r.mark r.name.now (kind_of r.kind) (rows_of rs)

-- the members that rows name, kept or not, each with its kind
abbrev pub members_of : List Row → List (List ℕ × specs.Kind)
members_of [] = []
members_of (r ∷ rs) = (r.name.now, kind_of r.kind) ∷ members_of rs

-- the members of a table, each with its kind
abbrev pub members_in : List specs.Row → List (List ℕ × specs.Kind)
members_in [] = []
members_in (r ∷ rs) = (r.name, r.kind) ∷ members_in rs

-- ---- choices

abbrev pub choices_of : List Choice → List (List ℕ × specs.Kind)
choices_of [] = []
choices_of (c ∷ cs) = (c.word.now, kind_of c.kind) ∷ choices_of cs

-- a flow's type, by its key
abbrev pub flow_choices : List (List ℕ × specs.ObjectType) → List (List ℕ × specs.Kind)
flow_choices [] = []
flow_choices (c ∷ cs) = (c.0, specs.named c.1) ∷ flow_choices cs

abbrev pub words_of_choices : List (List ℕ × specs.Kind) → List (List ℕ)
words_of_choices cs = map (λ c. c.0) cs

abbrev pub flow_kinds : List (List ℕ × specs.ObjectType) → List specs.Kind
flow_kinds cs = map (λ c. specs.named c.1) cs

-- ---- alternatives

-- the table of an alternative
abbrev pub schema_type : SchemaAlternative → specs.ObjectType
schema_type schema_alternatives.OneOf = specs.one_of_schema
schema_type schema_alternatives.AllOf = specs.all_of_schema
schema_type schema_alternatives.AnyOf = specs.any_of_schema
schema_type schema_alternatives.Array = specs.array_schema
schema_type schema_alternatives.Object = specs.object_schema

-- the members of all alternatives, each with its kind
abbrev pub schema_members : List (List ℕ × specs.Kind)
schema_members =
    (codes "additionalProperties", specs.additional_properties)
    ∷ (codes "allOf", (specs.list_of (specs.ref_or specs.schema)))
    ∷ (codes "anyOf", (specs.list_of (specs.ref_or specs.schema)))
    ∷ (codes "contentEncoding", specs.text)
    ∷ (codes "contentMediaType", specs.text)
    ∷ (codes "contentSchema", (specs.ref_or specs.schema))
    ∷ (codes "default", specs.any)
    ∷ (codes "deprecated", specs.flag)
    ∷ (codes "description", specs.text)
    ∷ (codes "discriminator", (specs.named specs.discriminator_object))
    ∷ (codes "enum", (specs.list_of specs.any))
    ∷ (codes "example", specs.any)
    ∷ (codes "examples", (specs.list_of specs.any))
    ∷ (codes "exclusiveMaximum", specs.numeral)
    ∷ (codes "exclusiveMinimum", specs.numeral)
    ∷ (codes "format", specs.schema_format)
    ∷ (codes "items", specs.array_items)
    ∷ (codes "maxItems", specs.whole)
    ∷ (codes "maxLength", specs.whole)
    ∷ (codes "maxProperties", specs.whole)
    ∷ (codes "maximum", specs.numeral)
    ∷ (codes "minItems", specs.whole)
    ∷ (codes "minLength", specs.whole)
    ∷ (codes "minProperties", specs.whole)
    ∷ (codes "minimum", specs.numeral)
    ∷ (codes "multipleOf", specs.numeral)
    ∷ (codes "oneOf", (specs.list_of (specs.ref_or specs.schema)))
    ∷ (codes "pattern", specs.text)
    ∷ (codes "prefixItems", (specs.list_of specs.schema))
    ∷ (codes "properties", (specs.map_of (specs.ref_or specs.schema)))
    ∷ (codes "propertyNames", specs.schema)
    ∷ (codes "readOnly", specs.flag)
    ∷ (codes "required", (specs.list_of specs.text))
    ∷ (codes "title", specs.text)
    ∷ (codes "type", specs.schema_type)
    ∷ (codes "uniqueItems", specs.flag)
    ∷ (codes "writeOnly", specs.flag)
    ∷ (codes "xml", (specs.named specs.xml_object)) ∷ []

-- the table of an alternative
abbrev pub flow_type : FlowAlternative → specs.ObjectType
flow_type flow_alternatives.Implicit = specs.implicit_flow
flow_type flow_alternatives.Password = specs.password_flow
flow_type flow_alternatives.ClientCredentials = specs.client_credentials_flow
flow_type flow_alternatives.AuthorizationCode = specs.authorization_code_flow
flow_type flow_alternatives.DeviceAuthorization = specs.device_authorization_flow

-- the members of all alternatives, each with its kind
abbrev pub flow_members : List (List ℕ × specs.Kind)
flow_members =
    (codes "authorizationUrl", specs.text)
    ∷ (codes "deviceAuthorizationUrl", specs.text)
    ∷ (codes "refreshUrl", specs.text)
    ∷ (codes "scopes", (specs.map_of specs.text))
    ∷ (codes "tokenUrl", specs.text) ∷ []
