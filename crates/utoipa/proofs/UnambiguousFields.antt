-- Whether a document is unambiguous, by the members that are asked: the others always are.
use Rattle.std.proofs.Common.{◌≡◌, Bool, true, ◌&&◌, ap, ◌∙◌, option_map, string_bytes}
use Rattle.utoipa_base.specs.Extensions.{extensions_view}
use Rattle.utoipa_base.specs.Kinds.{open_api_object}
use Rattle.utoipa_base.specs.Unambiguous.{is_unambiguous, are_extensions}
use Rattle.utoipa_base.specs.Views.{option_of, list_of_docs}
use Rattle.utoipa_base.proofs.UnambiguousParts.{unambiguous-table, unambiguous-text, docs-none, option-text}
use Rattle.utoipa_components.specs.Components.{components_doc}
use Rattle.utoipa_leaf.specs.ExternalDocs.{external_docs_doc}
use Rattle.utoipa_leaf.specs.Info.{info_doc}
use Rattle.utoipa_leaf.specs.Server.{server_doc}
use Rattle.utoipa_leaf.specs.Tag.{tag_doc}
use Rattle.utoipa_leaf.proofs.UnambiguousFields.{version-always}
use Rattle.utoipa_paths.specs.Paths.{paths_doc}
use Rattle.utoipa_schema.proofs.FieldsAsked.{passes_by, is_asked}
use Rattle.utoipa_security.proofs.UnambiguousRequirements.{option-requirements}
use Rattle.utoipa.specs.OpenApi.{openapi_doc}
use Rattle.utoipa.specs.declared.document.OpenApi.{OpenApi}

pub openapi_parts : (d : OpenApi) → is_unambiguous (openapi_doc d)
    ≡ ((is_unambiguous (option_of components_doc d.components) && (is_unambiguous (option_of external_docs_doc d.external_docs)
    && (is_unambiguous (info_doc d.info) && (is_unambiguous (paths_doc d.paths) && (is_unambiguous (option_of (list_of_docs server_doc) d.servers)
    && (is_unambiguous (option_of (list_of_docs tag_doc) d.tags) && (is_unambiguous (option_of paths_doc d.webhooks) && true)))))))
    && are_extensions (option_map extensions_view d.extensions))
openapi_parts d =
    unambiguous-table open_api_object _ _ ∙ ap (λ b. b && are_extensions (option_map extensions_view d.extensions))
    (passes_by _ _ (unambiguous-text (string_bytes d.schema))
    (passes_by _ _ (option-text d.self_uri)
    (is_asked _ _
    (is_asked _ _
    (is_asked _ _
    (passes_by _ _ (option-text d.json_schema_dialect)
    (passes_by _ _ (version-always d.openapi)
    (is_asked _ _
    (passes_by _ _ (option-requirements d.security)
    (is_asked _ _
    (is_asked _ _
    (is_asked _ _ docs-none))))))))))))

pub ruleset by_document_fields = (openapi_parts)
