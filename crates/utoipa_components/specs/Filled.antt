-- Components that take from later ones, and what takes that back.
use Rattle.std.specs.Prelude.{◌≡◌, Option, None, Some}
use Rattle.utoipa_base.specs.Views.{option_of}
use Rattle.utoipa_leaf.specs.declared.example.Example.{Example}
use Rattle.utoipa_media.specs.declared.link.Link.{Link}
use Rattle.utoipa_media.specs.declared.types.Content.{Content}
use Rattle.utoipa_media.specs.declared.types.Header.{Header}
use Rattle.utoipa_merging.specs.Merged.{IsInOrder}
use Rattle.utoipa_merging.specs.Slots.{ComponentMap, map_member, field_at}
use Rattle.utoipa_merging_parts.specs.Filled.{Names, without}
use Rattle.utoipa_operation_parts.specs.declared.parameter.Parameter.{Parameter}
use Rattle.utoipa_operation_parts.specs.declared.request_body.RequestBody.{RequestBody}
use Rattle.utoipa_operation_parts.specs.declared.response.Response.{Response}
use Rattle.utoipa_path.specs.Builders.{Callback}
use Rattle.utoipa_schema.specs.declared.types.Schema.{Schema}
use Rattle.utoipa_security.specs.declared.security.scheme.SecurityScheme.{SecurityScheme}
use Rattle.utoipa_components.specs.Components.{components_doc, PlacesByName, PathItemsByName}
use Rattle.utoipa_components.specs.declared.components.Components.{Components}
use Rattle.utoipa_components.specs.declared.merging.FilledComponents.{FilledComponents}
use Rattle.utoipa_components.specs.declared.merging.FilledComponents.TheVariants.{Nothing, Whole, Entries}

-- the names of each map ascend
abbrev pub AreComponentsInOrder : Option Components → Type 0
AreComponentsInOrder c = (m : ComponentMap) → IsInOrder (field_at (map_member m) (option_of components_doc c))

-- ---- the maps side by side

-- maps side by side, each beside those after it, in the order of the fields
abbrev pub Maps : Type 0
Maps =
    PlacesByName Schema
    × (PlacesByName Response
    × (PlacesByName Parameter
    × (PlacesByName Example
    × (PlacesByName RequestBody
    × (PlacesByName Header
    × (PlacesByName Link
    × (PlacesByName Callback
    × (PathItemsByName
    × (PlacesByName Content
    × (PlacesByName SecurityScheme × Unit {0}))))))))))

abbrev pub maps_in : Components → Maps
maps_in c =
    (c.schemas, (c.responses, (c.parameters, (c.examples, (c.request_bodies, (c.headers, (c.links, (c.callbacks, (c.path_items, (c.media_types, (c.security_schemes, tt)))))))))))

-- ---- taking back

-- names for each of the maps, in the order of their fields
abbrev pub NamesPut : Type 0
NamesPut = Names × (Names × (Names × (Names × (Names × (Names × (Names × (Names × (Names × (Names × (Names × Unit {0}))))))))))

-- the components without the entries of these names are those before
pub record EntriesGoBack (names : NamesPut) (now before : Components) : Type 0 where
  pub schemas : without names.0 now.schemas.entries ≡ before.schemas.entries
  pub responses : without names.1.0 now.responses.entries ≡ before.responses.entries
  pub parameters : without names.1.1.0 now.parameters.entries ≡ before.parameters.entries
  pub examples : without names.1.1.1.0 now.examples.entries ≡ before.examples.entries
  pub request_bodies : without names.1.1.1.1.0 now.request_bodies.entries ≡ before.request_bodies.entries
  pub headers : without names.1.1.1.1.1.0 now.headers.entries ≡ before.headers.entries
  pub links : without names.1.1.1.1.1.1.0 now.links.entries ≡ before.links.entries
  pub callbacks : without names.1.1.1.1.1.1.1.0 now.callbacks.entries ≡ before.callbacks.entries
  pub path_items : without names.1.1.1.1.1.1.1.1.0 now.path_items.entries ≡ before.path_items.entries
  pub media_types : without names.1.1.1.1.1.1.1.1.1.0 now.media_types.entries ≡ before.media_types.entries
  pub security_schemes : without names.1.1.1.1.1.1.1.1.1.1.0 now.security_schemes.entries ≡ before.security_schemes.entries
  pub extensions : now.extensions ≡ before.extensions

-- the components without what was taken are those before
abbrev pub GoBack : FilledComponents → (now before : Option Components) → Type 0
GoBack Nothing now before = now ≡ before
GoBack Whole now before = before ≡ None
GoBack (Entries names) now before = (n b : Components) × (now ≡ Some n) × (before ≡ Some b) × EntriesGoBack names n b
