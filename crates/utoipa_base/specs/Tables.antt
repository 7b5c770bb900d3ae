-- The member tables of the model: a line for each member that the model keeps, by OpenAPI 3.1 with members that 3.2 adds.
-- The rows of a table stand in the order of the bytes of their names, in which they are written too. The standard's order groups the members by
-- their meaning, and says nothing of a document; docs/FORMAT.md keeps it.
-- A comment `not kept` names members of the standard that are dropped on reading, `stricter` what the standard allows and the table does
-- not fit. By its mark an `optional` member that is null is dropped too, as a `default` or an `example` of null.
use Rattle.std.specs.Prelude.{ℕ, List, [], ◌∷◌, Bool, true, false, codes}
use Rattle.utoipa_base.specs.Kinds.{ObjectType, open_api_object, info_object, contact_object, license_object, server_object, server_variable_object, components_object, path_item_object, operation_object, external_docs_object, parameter_object, request_body_object, media_type_object, encoding_object, response_object, example_object, link_object, header_object, tag_object, reference_object, discriminator_object, xml_object, one_of_schema, all_of_schema, any_of_schema, array_schema, object_schema, api_key_scheme, http_scheme, open_id_connect_scheme, mutual_tls_scheme, oauth2_scheme, implicit_flow, password_flow, client_credentials_flow, authorization_code_flow, device_authorization_flow, scopes_object, Kind, text, flag, whole, numeral, any, word_of, parameter_in, parameter_style, http_auth_scheme, version, list_of, map_of, ordered_map_of, entries_of, ref_or, named, schema, schema_type, schema_format, array_items, additional_properties, security_scheme, flows, Mark, required, optional, or_null, defaulted, Row}

abbrev pub row : List ℕ → Mark → Kind → Row
row name mark kind = record { name = name; mark = mark; kind = kind }

-- ---- objects whose members are named by their writer

-- Paths Object: section 4.8.8. A member whose name begins `x-` is an extension, also in the map `webhooks`, which has this kind.
abbrev pub paths : Kind
paths = entries_of (named path_item_object)

-- Responses Object: section 4.8.16. A member whose name begins `x-` is an extension.
abbrev pub responses : Kind
responses = entries_of (ref_or (named response_object))

-- Callback Object: section 4.8.18. Every member is an entry.
-- not kept: extensions; stricter: a member whose name begins `x-` is a path item or a reference like any other
abbrev pub callback : Kind
callback = map_of (ref_or (named path_item_object))

-- Security Requirement Object: section 4.8.30. Every member is an entry, as in the standard, which has no extensions here.
abbrev pub security_requirement : Kind
security_requirement = map_of (list_of text)

-- ---- objects whose members have fixed names

-- Specification Extensions: section 4.9. Whether the members whose names begin `x-` are kept.
abbrev pub has_extensions : ObjectType → Bool
-- in the standard too, no extensions stand beside `$ref`
has_extensions reference_object = false
-- not kept, though the standard has them
has_extensions xml_object = false
-- one member of a flow, whose extensions are those of the flow
has_extensions scopes_object = false
has_extensions n = true

abbrev pub table : ObjectType → List Row
-- OpenAPI Object: OpenAPI 3.1, section 4.8.1; `$self` from 3.2; `$schema` is this model's own
-- stricter: `paths` is asked for
table open_api_object =
    row (codes "$schema") defaulted text
    ∷ row (codes "$self") optional text
    ∷ row (codes "components") optional (named components_object)
    ∷ row (codes "externalDocs") optional (named external_docs_object)
    ∷ row (codes "info") required (named info_object)
    ∷ row (codes "jsonSchemaDialect") optional text
    ∷ row (codes "openapi") required version
    ∷ row (codes "paths") required paths
    ∷ row (codes "security") optional (list_of security_requirement)
    ∷ row (codes "servers") optional (list_of (named server_object))
    ∷ row (codes "tags") optional (list_of (named tag_object))
    ∷ row (codes "webhooks") optional paths ∷ []
-- Info Object: section 4.8.2
-- not kept: `summary`
table info_object =
    row (codes "contact") optional (named contact_object)
    ∷ row (codes "description") optional text
    ∷ row (codes "license") optional (named license_object)
    ∷ row (codes "termsOfService") optional text
    ∷ row (codes "title") required text
    ∷ row (codes "version") required text ∷ []
-- Contact Object: section 4.8.3
table contact_object =
    row (codes "email") optional text
    ∷ row (codes "name") optional text
    ∷ row (codes "url") optional text ∷ []
-- License Object: section 4.8.4
table license_object =
    row (codes "identifier") optional text
    ∷ row (codes "name") required text
    ∷ row (codes "url") optional text ∷ []
-- Server Object: section 4.8.5; `name` from 3.2
table server_object =
    row (codes "description") optional text
    ∷ row (codes "name") optional text
    ∷ row (codes "url") required text
    ∷ row (codes "variables") optional (map_of (named server_variable_object)) ∷ []
-- Server Variable Object: section 4.8.6
table server_variable_object =
    row (codes "default") required text
    ∷ row (codes "description") optional text
    ∷ row (codes "enum") optional (list_of text) ∷ []
-- Components Object: section 4.8.7; `mediaTypes` from 3.2
table components_object =
    row (codes "callbacks") defaulted (map_of (ref_or callback))
    ∷ row (codes "examples") defaulted (map_of (ref_or (named example_object)))
    ∷ row (codes "headers") defaulted (map_of (ref_or (named header_object)))
    ∷ row (codes "links") defaulted (map_of (ref_or (named link_object)))
    ∷ row (codes "mediaTypes") defaulted (map_of (ref_or (named media_type_object)))
    ∷ row (codes "parameters") defaulted (map_of (ref_or (named parameter_object)))
    ∷ row (codes "pathItems") defaulted (map_of (named path_item_object))
    ∷ row (codes "requestBodies") defaulted (map_of (ref_or (named request_body_object)))
    ∷ row (codes "responses") defaulted (map_of (ref_or (named response_object)))
    ∷ row (codes "schemas") defaulted (map_of (ref_or schema))
    ∷ row (codes "securitySchemes") defaulted (map_of (ref_or security_scheme)) ∷ []
-- Path Item Object: section 4.8.9; `query` and `additionalOperations` from 3.2
table path_item_object =
    row (codes "$ref") optional text
    ∷ row (codes "additionalOperations") defaulted (map_of (named operation_object))
    ∷ row (codes "delete") optional (named operation_object)
    ∷ row (codes "description") optional text
    ∷ row (codes "get") optional (named operation_object)
    ∷ row (codes "head") optional (named operation_object)
    ∷ row (codes "options") optional (named operation_object)
    ∷ row (codes "parameters") optional (list_of (ref_or (named parameter_object)))
    ∷ row (codes "patch") optional (named operation_object)
    ∷ row (codes "post") optional (named operation_object)
    ∷ row (codes "put") optional (named operation_object)
    ∷ row (codes "query") optional (named operation_object)
    ∷ row (codes "servers") optional (list_of (named server_object))
    ∷ row (codes "summary") optional text
    ∷ row (codes "trace") optional (named operation_object) ∷ []
-- Operation Object: section 4.8.10
-- stricter: `responses` is asked for
table operation_object =
    row (codes "callbacks") defaulted (map_of (ref_or callback))
    ∷ row (codes "deprecated") optional flag
    ∷ row (codes "description") optional text
    ∷ row (codes "externalDocs") optional (named external_docs_object)
    ∷ row (codes "operationId") optional text
    ∷ row (codes "parameters") optional (list_of (ref_or (named parameter_object)))
    ∷ row (codes "requestBody") optional (ref_or (named request_body_object))
    ∷ row (codes "responses") required responses
    ∷ row (codes "security") optional (list_of security_requirement)
    ∷ row (codes "servers") optional (list_of (named server_object))
    ∷ row (codes "summary") optional text
    ∷ row (codes "tags") optional (list_of text) ∷ []
-- External Documentation Object: section 4.8.11
table external_docs_object =
    row (codes "description") or_null text
    ∷ row (codes "url") required text ∷ []
-- Parameter Object: section 4.8.12
-- not kept: `examples`, `allowEmptyValue`; stricter: `required` is asked for
table parameter_object =
    row (codes "allowReserved") optional flag
    ∷ row (codes "content") defaulted (map_of (ref_or (named media_type_object)))
    ∷ row (codes "deprecated") optional flag
    ∷ row (codes "description") optional text
    ∷ row (codes "example") optional any
    ∷ row (codes "explode") optional flag
    ∷ row (codes "in") required (word_of parameter_in)
    ∷ row (codes "name") required text
    ∷ row (codes "required") required flag
    ∷ row (codes "schema") optional (ref_or schema)
    ∷ row (codes "style") optional (word_of parameter_style) ∷ []
-- Request Body Object: section 4.8.13
table request_body_object =
    row (codes "content") required (map_of (ref_or (named media_type_object)))
    ∷ row (codes "description") optional text
    ∷ row (codes "required") optional flag ∷ []
-- Media Type Object: section 4.8.14; `itemSchema`, `prefixEncoding` and `itemEncoding` from 3.2; `description` is this model's own
table media_type_object =
    row (codes "description") optional text
    ∷ row (codes "encoding") defaulted (map_of (named encoding_object))
    ∷ row (codes "example") optional any
    ∷ row (codes "examples") defaulted (map_of (ref_or (named example_object)))
    ∷ row (codes "itemEncoding") optional (named encoding_object)
    ∷ row (codes "itemSchema") optional (ref_or schema)
    ∷ row (codes "prefixEncoding") defaulted (list_of (named encoding_object))
    ∷ row (codes "schema") optional (ref_or schema) ∷ []
-- Encoding Object: section 4.8.15; `encoding`, `prefixEncoding` and `itemEncoding` from 3.2
table encoding_object =
    row (codes "allowReserved") optional flag
    ∷ row (codes "contentType") optional text
    ∷ row (codes "encoding") defaulted (map_of (named encoding_object))
    ∷ row (codes "explode") optional flag
    ∷ row (codes "headers") defaulted (map_of (ref_or (named header_object)))
    ∷ row (codes "itemEncoding") optional (named encoding_object)
    ∷ row (codes "prefixEncoding") defaulted (list_of (named encoding_object))
    ∷ row (codes "style") optional (word_of parameter_style) ∷ []
-- Response Object: section 4.8.17; `summary` from 3.2, where `description` need not be there
table response_object =
    row (codes "content") defaulted (ordered_map_of (ref_or (named media_type_object)))
    ∷ row (codes "description") defaulted text
    ∷ row (codes "headers") defaulted (map_of (ref_or (named header_object)))
    ∷ row (codes "links") defaulted (map_of (ref_or (named link_object)))
    ∷ row (codes "summary") optional text ∷ []
-- Example Object: section 4.8.19
-- not kept: `dataValue` and `serializedValue` of 3.2
table example_object =
    row (codes "description") defaulted text
    ∷ row (codes "externalValue") defaulted text
    ∷ row (codes "summary") defaulted text
    ∷ row (codes "value") optional any ∷ []
-- Link Object: section 4.8.20
table link_object =
    row (codes "description") defaulted text
    ∷ row (codes "operationId") defaulted text
    ∷ row (codes "operationRef") defaulted text
    ∷ row (codes "parameters") defaulted (map_of any)
    ∷ row (codes "requestBody") optional any
    ∷ row (codes "server") optional (named server_object) ∷ []
-- Header Object: section 4.8.21
-- not kept: `required`
table header_object =
    row (codes "content") defaulted (map_of (ref_or (named media_type_object)))
    ∷ row (codes "deprecated") optional flag
    ∷ row (codes "description") optional text
    ∷ row (codes "example") optional any
    ∷ row (codes "examples") defaulted (map_of (ref_or (named example_object)))
    ∷ row (codes "explode") optional flag
    ∷ row (codes "schema") optional (ref_or schema)
    ∷ row (codes "style") optional (word_of parameter_style) ∷ []
-- Tag Object: section 4.8.22; `summary`, `parent` and `kind` from 3.2
table tag_object =
    row (codes "description") optional text
    ∷ row (codes "externalDocs") optional (named external_docs_object)
    ∷ row (codes "kind") optional text
    ∷ row (codes "name") required text
    ∷ row (codes "parent") optional text
    ∷ row (codes "summary") optional text ∷ []
-- Reference Object: section 4.8.23; the annotations beside `summary` and `description` are those that JSON Schema allows beside `$ref`
table reference_object =
    row (codes "$ref") required text
    ∷ row (codes "default") optional any
    ∷ row (codes "description") defaulted text
    ∷ row (codes "readOnly") optional flag
    ∷ row (codes "summary") defaulted text
    ∷ row (codes "title") optional text
    ∷ row (codes "writeOnly") optional flag ∷ []
-- Discriminator Object: section 4.8.25
-- not kept: `defaultMapping` of 3.2
table discriminator_object =
    row (codes "mapping") defaulted (map_of text)
    ∷ row (codes "propertyName") required text ∷ []
-- XML Object: section 4.8.26; `nodeType` from 3.2
-- not kept: extensions
table xml_object =
    row (codes "attribute") optional flag
    ∷ row (codes "name") optional text
    ∷ row (codes "namespace") optional text
    ∷ row (codes "nodeType") optional text
    ∷ row (codes "prefix") optional text
    ∷ row (codes "wrapped") optional flag ∷ []
-- Schema Object: section 4.8.24. Each of its five tables keeps the keywords of its own rows alone, and beside `$ref` those of the Reference
-- Object are kept. For all five it is stricter that true is a schema at `additionalProperties` alone, and false there and at `items` alone.
-- Schema Object with `oneOf` (JSON Schema 2020-12, Core, section 10.2.1.3)
-- not kept: other keywords, as `not`, `deprecated`, `externalDocs`, `xml`, `properties`, `allOf`
table one_of_schema =
    row (codes "default") optional any
    ∷ row (codes "description") optional text
    ∷ row (codes "discriminator") optional (named discriminator_object)
    ∷ row (codes "example") optional any
    ∷ row (codes "examples") defaulted (list_of any)
    ∷ row (codes "oneOf") required (list_of (ref_or schema))
    ∷ row (codes "readOnly") optional flag
    ∷ row (codes "title") optional text
    ∷ row (codes "type") defaulted schema_type
    ∷ row (codes "writeOnly") optional flag ∷ []
-- Schema Object with `allOf` (JSON Schema 2020-12, Core, section 10.2.1.1)
-- not kept: other keywords, as `not`, `deprecated`, `externalDocs`, `xml`, `properties`, `anyOf`, `readOnly`, `writeOnly`
table all_of_schema =
    row (codes "allOf") required (list_of (ref_or schema))
    ∷ row (codes "default") optional any
    ∷ row (codes "description") optional text
    ∷ row (codes "discriminator") optional (named discriminator_object)
    ∷ row (codes "example") optional any
    ∷ row (codes "examples") defaulted (list_of any)
    ∷ row (codes "title") optional text
    ∷ row (codes "type") defaulted schema_type ∷ []
-- Schema Object with `anyOf` (JSON Schema 2020-12, Core, section 10.2.1.2)
-- not kept: other keywords, as `not`, `deprecated`, `externalDocs`, `xml`, `properties`, `title`, `readOnly`, `writeOnly`
table any_of_schema =
    row (codes "anyOf") required (list_of (ref_or schema))
    ∷ row (codes "default") optional any
    ∷ row (codes "description") optional text
    ∷ row (codes "discriminator") optional (named discriminator_object)
    ∷ row (codes "example") optional any
    ∷ row (codes "examples") defaulted (list_of any)
    ∷ row (codes "type") defaulted schema_type ∷ []
-- Schema Object of an array (JSON Schema 2020-12, Core, section 10.3.1, and Validation, sections 6.4, 8 and 9)
-- not kept: other keywords, as `not`, `const`, `enum`, `contains`, `externalDocs`, `readOnly`, `writeOnly`
-- stricter: `type` and `items` are asked for, and a schema at `prefixItems` is no reference; with a `type` what does not fit here may
-- fit the next table, which drops `items` and `prefixItems`
table array_schema =
    row (codes "contentEncoding") defaulted text
    ∷ row (codes "contentMediaType") defaulted text
    ∷ row (codes "contentSchema") optional (ref_or schema)
    ∷ row (codes "default") optional any
    ∷ row (codes "deprecated") optional flag
    ∷ row (codes "description") optional text
    ∷ row (codes "example") optional any
    ∷ row (codes "examples") defaulted (list_of any)
    ∷ row (codes "items") required array_items
    ∷ row (codes "maxItems") optional whole
    ∷ row (codes "minItems") optional whole
    ∷ row (codes "prefixItems") defaulted (list_of schema)
    ∷ row (codes "title") optional text
    ∷ row (codes "type") required schema_type
    ∷ row (codes "uniqueItems") defaulted flag
    ∷ row (codes "xml") optional (named xml_object) ∷ []
-- Schema Object of any other type (JSON Schema 2020-12, Core, section 10.3.2, and Validation, sections 6 to 9)
-- not kept: other keywords, as `not`, `const`, `patternProperties`, `externalDocs`, `discriminator`
-- stricter: a schema at `propertyNames` is no reference
table object_schema =
    row (codes "additionalProperties") optional additional_properties
    ∷ row (codes "contentEncoding") defaulted text
    ∷ row (codes "contentMediaType") defaulted text
    ∷ row (codes "contentSchema") optional (ref_or schema)
    ∷ row (codes "default") optional any
    ∷ row (codes "deprecated") optional flag
    ∷ row (codes "description") optional text
    ∷ row (codes "enum") optional (list_of any)
    ∷ row (codes "example") optional any
    ∷ row (codes "examples") defaulted (list_of any)
    ∷ row (codes "exclusiveMaximum") optional numeral
    ∷ row (codes "exclusiveMinimum") optional numeral
    ∷ row (codes "format") optional schema_format
    ∷ row (codes "maxLength") optional whole
    ∷ row (codes "maxProperties") optional whole
    ∷ row (codes "maximum") optional numeral
    ∷ row (codes "minLength") optional whole
    ∷ row (codes "minProperties") optional whole
    ∷ row (codes "minimum") optional numeral
    ∷ row (codes "multipleOf") optional numeral
    ∷ row (codes "pattern") optional text
    ∷ row (codes "properties") defaulted (map_of (ref_or schema))
    ∷ row (codes "propertyNames") optional schema
    ∷ row (codes "readOnly") optional flag
    ∷ row (codes "required") defaulted (list_of text)
    ∷ row (codes "title") optional text
    ∷ row (codes "type") defaulted schema_type
    ∷ row (codes "writeOnly") optional flag
    ∷ row (codes "xml") optional (named xml_object) ∷ []
-- Security Scheme Object, `apiKey`: section 4.8.27; `deprecated` from 3.2; its member `in` is the choice of an API key
table api_key_scheme =
    row (codes "deprecated") optional flag
    ∷ row (codes "description") optional text
    ∷ row (codes "name") required text ∷ []
-- Security Scheme Object, `http`; `deprecated` from 3.2
-- stricter: `scheme` is one of the words as they are written; the standard allows other names, and any case
table http_scheme =
    row (codes "bearerFormat") optional text
    ∷ row (codes "deprecated") optional flag
    ∷ row (codes "description") optional text
    ∷ row (codes "scheme") required (word_of http_auth_scheme) ∷ []
-- Security Scheme Object, `openIdConnect`; `deprecated` from 3.2
table open_id_connect_scheme =
    row (codes "deprecated") optional flag
    ∷ row (codes "description") optional text
    ∷ row (codes "openIdConnectUrl") required text ∷ []
-- Security Scheme Object, `mutualTLS`; `deprecated` from 3.2
table mutual_tls_scheme =
    row (codes "deprecated") optional flag
    ∷ row (codes "description") optional text ∷ []
-- Security Scheme Object, `oauth2`; `oauth2MetadataUrl` and `deprecated` from 3.2
-- not kept: extensions of `flows`, an OAuth Flows Object; stricter: each of its members is a flow, also one whose name begins `x-`
table oauth2_scheme =
    row (codes "deprecated") optional flag
    ∷ row (codes "description") optional text
    ∷ row (codes "flows") required flows
    ∷ row (codes "oauth2MetadataUrl") optional text ∷ []
-- OAuth Flow Object: sections 4.8.28 and 4.8.29, `implicit`
table implicit_flow =
    row (codes "authorizationUrl") required text
    ∷ row (codes "refreshUrl") optional text
    ∷ row (codes "scopes") required (map_of text) ∷ []
-- OAuth Flow Object, `password`
table password_flow =
    row (codes "refreshUrl") optional text
    ∷ row (codes "scopes") required (map_of text)
    ∷ row (codes "tokenUrl") required text ∷ []
-- OAuth Flow Object, `clientCredentials`
table client_credentials_flow =
    row (codes "refreshUrl") optional text
    ∷ row (codes "scopes") required (map_of text)
    ∷ row (codes "tokenUrl") required text ∷ []
-- OAuth Flow Object, `authorizationCode`
table authorization_code_flow =
    row (codes "authorizationUrl") required text
    ∷ row (codes "refreshUrl") optional text
    ∷ row (codes "scopes") required (map_of text)
    ∷ row (codes "tokenUrl") required text ∷ []
-- OAuth Flow Object, `deviceAuthorization`, from 3.2
table device_authorization_flow =
    row (codes "deviceAuthorizationUrl") required text
    ∷ row (codes "refreshUrl") optional text
    ∷ row (codes "scopes") required (map_of text)
    ∷ row (codes "tokenUrl") required text ∷ []
-- the member `scopes` of an OAuth Flow Object, by itself
table scopes_object =
    row (codes "scopes") required (map_of text) ∷ []
