-- For users of the model, and for whoever checks it: which field of a type stands in its document under which name. Here are the theorems of all types,
-- so that a program's contracts name this crate alone. The page `Members` of utoipa_base says how a theorem is read and cited.
use Rattle.std.specs.Prelude.{◌≡◌, refl, [], ◌∷◌}
use Rattle.utoipa_base.specs.Views.{text_of, option_of, list_of_docs}
use Rattle.utoipa_components.specs.Components.{components_doc}
use Rattle.utoipa_leaf.specs.ExternalDocs.{external_docs_doc}
use Rattle.utoipa_leaf.specs.Info.{info_doc}
use Rattle.utoipa_leaf.specs.Server.{server_doc}
use Rattle.utoipa_leaf.specs.Tag.{tag_doc}
use Rattle.utoipa_leaf.specs.Version.{version_doc}
use Rattle.utoipa_paths.specs.Paths.{paths_doc}
use Rattle.utoipa_security.specs.Requirement.{requirement_doc}
use Rattle.utoipa.specs.OpenApi.{openapi_doc}
use Rattle.utoipa.specs.declared.document.OpenApi.{OpenApi}
-- how a theorem is read, and how one line of it is cited
pub use Rattle.utoipa_base.specs.Members.{Member, member, members_in, members_by_word, member_at, field_at, field_is, reference_members}
-- info, servers, external documentation, examples, tags
pub use Rattle.utoipa_leaf.specs.Members.{info_members, contact_members, license_members, server_members, server_variable_members, external_docs_members, example_members, tag_members}
-- security schemes and their flows
pub use Rattle.utoipa_security.specs.Members.{oauth2_scheme_members, api_key_scheme_members, http_scheme_members, open_id_connect_scheme_members, mutual_tls_members, header_key_members, query_key_members, cookie_key_members, oauth2_members, api_key_members, http_members, open_id_connect_members, implicit_key, password_key, client_credentials_key, authorization_code_key, device_authorization_key, implicit_members, password_members, client_credentials_members, authorization_code_members, device_authorization_members, scopes_members}
-- parts of schemas
pub use Rattle.utoipa_schema_parts.specs.Members.{discriminator_members, xml_members}
-- schemas
pub use Rattle.utoipa_schema.specs.Members.{object_members, array_members, one_of_members, all_of_members, any_of_members}
-- media types, encodings, headers, links
pub use Rattle.utoipa_media.specs.Members.{content_members, encoding_members, header_members, link_members}
-- parts of operations
pub use Rattle.utoipa_operation_parts.specs.Members.{parameter_members, request_body_members, response_members}
-- path items and operations
pub use Rattle.utoipa_path.specs.Members.{path_item_members, operation_members}
-- components
pub use Rattle.utoipa_components.specs.Members.{components_members}

-- OpenAPI Object: section 4.8.1
pub openapi_members : (d : OpenApi) → members_in (openapi_doc d) ≡
    member "$schema" (text_of d.schema)
    ∷ member "$self" (option_of text_of d.self_uri)
    ∷ member "components" (option_of components_doc d.components)
    ∷ member "externalDocs" (option_of external_docs_doc d.external_docs)
    ∷ member "info" (info_doc d.info)
    ∷ member "jsonSchemaDialect" (option_of text_of d.json_schema_dialect)
    ∷ member "openapi" (version_doc d.openapi)
    ∷ member "paths" (paths_doc d.paths)
    ∷ member "security" (option_of (list_of_docs requirement_doc) d.security)
    ∷ member "servers" (option_of (list_of_docs server_doc) d.servers)
    ∷ member "tags" (option_of (list_of_docs tag_doc) d.tags)
    ∷ member "webhooks" (option_of paths_doc d.webhooks) ∷ []
openapi_members d = refl
