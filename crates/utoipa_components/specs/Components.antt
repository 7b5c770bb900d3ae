-- The documents of components, and what their calls come to.
use Rattle.std.specs.Prelude.{◌≡◌, List, [], ◌∷◌, Bool, true, false, None, option_map, String}
use Rattle.std.specs.BTreeMap.{BTreeMap}
use Rattle.std.specs.declared.alloc.Global.{Global}
use Rattle.utoipa_base.specs.Docs.{Doc, table_doc, no_docs, doc}
use Rattle.utoipa_base.specs.Extensions.{extensions_view}
use Rattle.utoipa_base.specs.Fill.{Pairs}
use Rattle.utoipa_base.specs.Kinds.{Kind, named, ref_or, map_of, schema, security_scheme, components_object, response_object, parameter_object, example_object, request_body_object, header_object, link_object, path_item_object, media_type_object}
use Rattle.utoipa_base.specs.OfKind.{map_of_kind, ref_or_of_kind, extends_of_kind, no_rows, next_row, table_of_kind}
use Rattle.utoipa_base.specs.Refs.{ref_or_doc}
use Rattle.utoipa_base.specs.Shape.{IsOf, value_of}
use Rattle.utoipa_base.specs.Tables.{callback}
use Rattle.utoipa_base.specs.Views.{map_of_docs}
use Rattle.utoipa_base.specs.declared.refs.RefOr.{RefOr}
use Rattle.utoipa_leaf.specs.Example.{example_doc, example_of_kind}
use Rattle.utoipa_media.specs.Docs.{content_doc, header_doc}
use Rattle.utoipa_media.specs.Link.{link_doc, link_of_kind}
use Rattle.utoipa_media.specs.OfKind.{content_of_kind, header_of_kind}
use Rattle.utoipa_operation_parts.specs.Parameter.{parameter_doc, parameter_of_kind}
use Rattle.utoipa_operation_parts.specs.RequestBody.{request_body_doc, request_body_of_kind}
use Rattle.utoipa_operation_parts.specs.Response.{response_doc, response_of_kind}
use Rattle.utoipa_path.specs.Docs.{path_item_doc, callback_doc}
use Rattle.utoipa_path.specs.OfKind.{path_item_of_kind, callback_of_kind}
use Rattle.utoipa_path.specs.declared.types.PathItem.{PathItem}
use Rattle.utoipa_schema.specs.Docs.{schema_doc}
use Rattle.utoipa_schema.specs.OfKind.{schema_of_kind}
use Rattle.utoipa_security.specs.Schemes.{scheme_doc, scheme_of_kind}
use Rattle.utoipa_security.specs.declared.security.scheme.SecurityScheme.{SecurityScheme}
use Rattle.utoipa_components.specs.declared.builder.ComponentsBuilder.{ComponentsBuilder}
use Rattle.utoipa_components.specs.declared.components.Components.{Components}

-- values and references to such, by their names
abbrev pub PlacesByName : Type 0 → Type 0
PlacesByName X = BTreeMap (String Global) (RefOr X)

-- path items, by their names
abbrev pub PathItemsByName : Type 0
PathItemsByName = BTreeMap (String Global) PathItem

-- ---- what the constructors make

-- the components of a builder so far
abbrev pub built_components : ComponentsBuilder → Components
built_components b = b.components

-- there are no components, and there are no extensions
abbrev pub AreEmptyComponents : Components → Type 0
AreEmptyComponents c =
    (c.schemas.entries ≡ [])
    × (c.responses.entries ≡ [])
    × (c.parameters.entries ≡ [])
    × (c.examples.entries ≡ [])
    × (c.request_bodies.entries ≡ [])
    × (c.headers.entries ≡ [])
    × (c.links.entries ≡ [])
    × (c.callbacks.entries ≡ [])
    × (c.path_items.entries ≡ [])
    × (c.media_types.entries ≡ [])
    × (c.security_schemes.entries ≡ [])
    × (c.extensions ≡ None)

-- the new components have these security schemes, and all else as the old ones have it
abbrev pub HoldSchemes : Pairs (RefOr SecurityScheme) → Components → Components → Type 0
HoldSchemes entries old new = (held : PlacesByName SecurityScheme) × (held.entries ≡ entries) × (new ≡ record old { security_schemes = held })

-- ---- the documents

-- values of a kind and references to such, by their names, as a document
abbrev pub places_doc : {X : Type 0} → Kind → (X → Doc) → PlacesByName X → Doc
places_doc k f = map_of_docs (ref_or_doc k f)

-- components as a document
abbrev pub components_doc : Components → Doc
components_doc c =
    table_doc components_object
    (doc (places_doc callback callback_doc c.callbacks)
    (doc (places_doc (named example_object) example_doc c.examples)
    (doc (places_doc (named header_object) header_doc c.headers)
    (doc (places_doc (named link_object) link_doc c.links)
    (doc (places_doc (named media_type_object) content_doc c.media_types)
    (doc (places_doc (named parameter_object) parameter_doc c.parameters)
    (doc (map_of_docs path_item_doc c.path_items)
    (doc (places_doc (named request_body_object) request_body_doc c.request_bodies)
    (doc (places_doc (named response_object) response_doc c.responses)
    (doc (places_doc schema schema_doc c.schemas)
    (doc (places_doc security_scheme scheme_doc c.security_schemes) no_docs)))))))))))
    (option_map extensions_view c.extensions)

-- of the rows of components, in their order, the one of the schemas
abbrev pub schemas_alone : List Bool
schemas_alone = false ∷ false ∷ false ∷ false ∷ false ∷ false ∷ false ∷ false ∷ false ∷ true ∷ false ∷ []

-- why such values are of their kind
places_of_kind : {X : Type 0} (f : X → Doc) (k : Kind) → ((x : X) → IsOf (f x) (value_of k)) → (m : PlacesByName X) → IsOf (places_doc k f m) (value_of (map_of (ref_or k)))
places_of_kind f k each m = map_of_kind (ref_or_doc k f) (ref_or k) (ref_or_of_kind f k each) m

-- why components are of their kind
pub components_of_kind : (c : Components) → IsOf (components_doc c) (value_of (named components_object))
components_of_kind c =
    table_of_kind _ _
    (next_row (places_of_kind callback_doc callback (callback_of_kind path_item_doc path_item_of_kind) c.callbacks)
    (next_row (places_of_kind example_doc (named example_object) example_of_kind c.examples)
    (next_row (places_of_kind header_doc (named header_object) header_of_kind c.headers)
    (next_row (places_of_kind link_doc (named link_object) link_of_kind c.links)
    (next_row (places_of_kind content_doc (named media_type_object) content_of_kind c.media_types)
    (next_row (places_of_kind parameter_doc (named parameter_object) parameter_of_kind c.parameters)
    (next_row (map_of_kind path_item_doc (named path_item_object) path_item_of_kind c.path_items)
    (next_row (places_of_kind request_body_doc (named request_body_object) request_body_of_kind c.request_bodies)
    (next_row (places_of_kind response_doc (named response_object) response_of_kind c.responses)
    (next_row (places_of_kind schema_doc schema schema_of_kind c.schemas)
    (next_row (places_of_kind scheme_doc security_scheme scheme_of_kind c.security_schemes) no_rows)))))))))))
    (extends_of_kind (option_map extensions_view c.extensions))
