-- The documents that describe an API.
use Rattle.std.specs.Prelude.{◌≡◌, List, [], ◌∷◌, Bool, true, false, None, option_map, String, string_bytes}
use Rattle.std.specs.declared.alloc.Global.{Global}
use Rattle.utoipa_base.specs.Docs.{Doc, table_doc, no_docs, doc}
use Rattle.utoipa_base.specs.Extensions.{extensions_view}
use Rattle.utoipa_base.specs.Kinds.{text, list_of, named, open_api_object, server_object, components_object, tag_object, external_docs_object}
use Rattle.utoipa_base.specs.OfKind.{text_of_kind, option_of_kind, list_of_kind, extends_of_kind, no_rows, next_row, table_of_kind}
use Rattle.utoipa_base.specs.Shape.{IsOf, value_of}
use Rattle.utoipa_base.specs.Tables.{paths, security_requirement}
use Rattle.utoipa_base.specs.Views.{text_of, option_of, list_of_docs}
use Rattle.utoipa_components.specs.Components.{components_doc, components_of_kind}
use Rattle.utoipa_leaf.specs.ExternalDocs.{external_docs_doc, external_docs_of_kind}
use Rattle.utoipa_leaf.specs.Info.{empty_info, info_doc, info_of_kind}
use Rattle.utoipa_leaf.specs.Server.{server_doc, server_of_kind}
use Rattle.utoipa_leaf.specs.Tag.{tag_doc, tag_of_kind}
use Rattle.utoipa_leaf.specs.Version.{version_doc, version_of_kind}
use Rattle.utoipa_leaf.specs.declared.info.Info.{Info}
use Rattle.utoipa_leaf.specs.declared.version.OpenApiVersion.TheVariants.{Version31}
use Rattle.utoipa_paths.specs.Paths.{paths_doc, paths_of_kind, IsEmptyPaths}
use Rattle.utoipa_paths.specs.declared.paths.Paths.{Paths}
use Rattle.utoipa_security.specs.Requirement.{requirement_doc, requirement_of_kind}
use Rattle.utoipa.specs.declared.builder.OpenApiBuilder.{OpenApiBuilder}
use Rattle.utoipa.specs.declared.document.OpenApi.{OpenApi}

-- the document of a builder so far
abbrev pub built_openapi : OpenApiBuilder → OpenApi
built_openapi b = b.document

-- the document is of version 3.1, and nothing is said but what its info and its paths say
abbrev pub SaysNoMore : OpenApi → Type 0
SaysNoMore d =
    (d.openapi ≡ Version31)
    × (d.servers ≡ None)
    × (d.webhooks ≡ None)
    × (d.components ≡ None)
    × (d.security ≡ None)
    × (d.tags ≡ None)
    × (d.external_docs ≡ None)
    × (d.json_schema_dialect ≡ None)
    × (string_bytes d.schema ≡ [])
    × (d.self_uri ≡ None)
    × (d.extensions ≡ None)

-- the document has this info and these paths, and nothing else is said
abbrev pub IsOpenApiOf : Info → Paths → OpenApi → Type 0
IsOpenApiOf info paths d = (d.info ≡ info) × (d.paths ≡ paths) × SaysNoMore d

-- the title and the version are empty, and nothing else is said of the API
abbrev pub IsEmptyInfo : Info → Type 0
IsEmptyInfo i = (title : String Global) × (version : String Global) × (string_bytes title ≡ []) × (string_bytes version ≡ []) × (i ≡ empty_info title version)

-- the document says no more than that there is one
abbrev pub IsEmptyOpenApi : OpenApi → Type 0
IsEmptyOpenApi d = IsEmptyInfo d.info × IsEmptyPaths d.paths × SaysNoMore d

-- of the members of a document, in the order of their names, those that may be large: its components, paths and webhooks
abbrev pub large_members : List Bool
large_members = false ∷ false ∷ true ∷ false ∷ false ∷ false ∷ false ∷ true ∷ false ∷ false ∷ false ∷ true ∷ []

-- the document, as contracts see one
abbrev pub openapi_doc : OpenApi → Doc
openapi_doc d =
    table_doc open_api_object
    (doc (text_of d.schema)
    (doc (option_of text_of d.self_uri)
    (doc (option_of components_doc d.components)
    (doc (option_of external_docs_doc d.external_docs)
    (doc (info_doc d.info)
    (doc (option_of text_of d.json_schema_dialect)
    (doc (version_doc d.openapi)
    (doc (paths_doc d.paths)
    (doc (option_of (list_of_docs requirement_doc) d.security)
    (doc (option_of (list_of_docs server_doc) d.servers)
    (doc (option_of (list_of_docs tag_doc) d.tags)
    (doc (option_of paths_doc d.webhooks) no_docs))))))))))))
    (option_map extensions_view d.extensions)

-- why a document is of its kind
pub openapi_of_kind : (d : OpenApi) → IsOf (openapi_doc d) (value_of (named open_api_object))
openapi_of_kind d =
    table_of_kind _ _
    (next_row (text_of_kind d.schema)
    (next_row (option_of_kind text_of text text_of_kind d.self_uri)
    (next_row (option_of_kind components_doc (named components_object) components_of_kind d.components)
    (next_row (option_of_kind external_docs_doc (named external_docs_object) external_docs_of_kind d.external_docs)
    (next_row (info_of_kind d.info)
    (next_row (option_of_kind text_of text text_of_kind d.json_schema_dialect)
    (next_row (version_of_kind d.openapi)
    (next_row (paths_of_kind d.paths)
    (next_row (option_of_kind (list_of_docs requirement_doc) (list_of security_requirement) (list_of_kind requirement_doc security_requirement requirement_of_kind) d.security)
    (next_row (option_of_kind (list_of_docs server_doc) (list_of (named server_object)) (list_of_kind server_doc (named server_object) server_of_kind) d.servers)
    (next_row (option_of_kind (list_of_docs tag_doc) (list_of (named tag_object)) (list_of_kind tag_doc (named tag_object) tag_of_kind) d.tags)
    (next_row (option_of_kind paths_doc paths paths_of_kind d.webhooks) no_rows))))))))))))
    (extends_of_kind (option_map extensions_view d.extensions))
