-- What may stand at a member, and how a row of a member table is marked.
use Rattle.std.specs.Prelude.{ℕ, List}

-- the object types that have a member table, by the names of the standard
pub data ObjectType : Type 0 where
  open_api_object : ObjectType
  info_object : ObjectType
  contact_object : ObjectType
  license_object : ObjectType
  server_object : ObjectType
  server_variable_object : ObjectType
  components_object : ObjectType
  path_item_object : ObjectType
  operation_object : ObjectType
  external_docs_object : ObjectType
  parameter_object : ObjectType
  request_body_object : ObjectType
  media_type_object : ObjectType
  encoding_object : ObjectType
  response_object : ObjectType
  example_object : ObjectType
  link_object : ObjectType
  header_object : ObjectType
  tag_object : ObjectType
  reference_object : ObjectType
  discriminator_object : ObjectType
  xml_object : ObjectType
  one_of_schema : ObjectType
  all_of_schema : ObjectType
  any_of_schema : ObjectType
  array_schema : ObjectType
  object_schema : ObjectType
  api_key_scheme : ObjectType
  http_scheme : ObjectType
  open_id_connect_scheme : ObjectType
  mutual_tls_scheme : ObjectType
  oauth2_scheme : ObjectType
  implicit_flow : ObjectType
  password_flow : ObjectType
  client_credentials_flow : ObjectType
  authorization_code_flow : ObjectType
  device_authorization_flow : ObjectType
  scopes_object : ObjectType

-- the types whose values are words
pub data Vocabulary : Type 0 where
  type_word : Vocabulary
  known_format : Vocabulary
  http_method : Vocabulary
  parameter_in : Vocabulary
  parameter_style : Vocabulary
  http_auth_scheme : Vocabulary

-- what a member holds
pub data Kind : Type 0 where
  -- a text
  text : Kind
  -- true or false
  flag : Kind
  -- a whole number from 0 to 18446744073709551615
  whole : Kind
  -- a whole number from -9223372036854775808 to 18446744073709551615
  numeral : Kind
  -- any tree
  any : Kind
  -- a word of a vocabulary
  word_of : Vocabulary → Kind
  -- the version of the standard
  version : Kind
  list_of : Kind → Kind
  -- an object, as a map from the names of its members
  map_of : Kind → Kind
  -- an object, as a map that keeps the order in which its entries were put
  ordered_map_of : Kind → Kind
  -- an object with extensions, whose other members are a map
  entries_of : Kind → Kind
  -- a reference, or else the kind
  ref_or : Kind → Kind
  -- an object of a type
  named : ObjectType → Kind
  -- a schema, by the first alternative that fits
  schema : Kind
  -- the types of a schema: a word, a list of words, or null for any value
  schema_type : Kind
  -- the format of a schema: a known word, or any other text
  schema_format : Kind
  -- the items of an array: a schema, a reference, or false
  array_items : Kind
  -- additional properties: a schema, a reference, true or false
  additional_properties : Kind
  -- a security scheme, by its member `type`
  security_scheme : Kind
  -- an API key, by its member `in`
  api_key : Kind
  -- OAuth flows, each by its key
  flows : Kind

pub data Mark : Type 0 where
  -- absent is refused; always written
  required : Mark
  -- absent or null is none; none is left out
  optional : Mark
  -- absent or null is none; none is written as null
  or_null : Mark
  -- absent is empty, and null is read as the kind says, which of these kinds only `schema_type` does; empty is left out
  defaulted : Mark

-- a row of a member table
pub record Row : Type 0 where
  pub name : List ℕ
  pub mark : Mark
  pub kind : Kind
