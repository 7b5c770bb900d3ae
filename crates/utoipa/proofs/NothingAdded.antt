-- A document of which nothing is said adds nothing where it is merged.
use Rattle.std.proofs.Common.{◌≡◌, None, option_map, ap, ◌∙◌}
use Rattle.utoipa_base.specs.Docs.{none_doc, no_entries, entries_doc, entries_of_list}
use Rattle.utoipa_base.specs.Extensions.{extensions_view}
use Rattle.utoipa_base.specs.Views.{list_of_docs, option_of, pairs_of}
use Rattle.utoipa_components.specs.Components.{components_doc}
use Rattle.utoipa_leaf.specs.Server.{server_doc}
use Rattle.utoipa_leaf.specs.Tag.{tag_doc}
use Rattle.utoipa_merging.specs.Merged.{AddsNothing}
use Rattle.utoipa_merging.specs.Slots.{Joined, servers_joined, security_joined, tags_joined, joined_of}
use Rattle.utoipa_path.specs.Docs.{path_item_doc}
use Rattle.utoipa_paths.specs.Paths.{paths_doc, IsEmptyPaths}
use Rattle.utoipa_paths.specs.declared.paths.Paths.{Paths}
use Rattle.utoipa_security.specs.Requirement.{requirement_doc}
use Rattle.utoipa.specs.OpenApi.{openapi_doc, IsEmptyOpenApi, SaysNoMore}
use Rattle.utoipa.specs.declared.document.OpenApi.{OpenApi}

no_list : (d : OpenApi) → SaysNoMore d → (j : Joined) → joined_of j (openapi_doc d) ≡ none_doc
no_list d more servers_joined = ap (option_of (list_of_docs server_doc)) more.1
no_list d more security_joined = ap (option_of (list_of_docs requirement_doc)) more.4
no_list d more tags_joined = ap (option_of (list_of_docs tag_doc)) more.5

no_path : (p : Paths) → IsEmptyPaths p → paths_doc p ≡ entries_doc no_entries None
no_path p empty =
    ap (λ items. entries_doc (entries_of_list (pairs_of path_item_doc items)) (option_map extensions_view p.extensions)) empty.0
    ∙ ap (λ extensions. entries_doc no_entries (option_map extensions_view extensions)) empty.1

pub adds_nothing : (d : OpenApi) → IsEmptyOpenApi d → AddsNothing (openapi_doc d)
adds_nothing d empty = record {
  no_lists = no_list d empty.2;
  no_paths = no_path d.paths empty.1;
  no_components = ap (option_of components_doc) empty.2.3;
}
