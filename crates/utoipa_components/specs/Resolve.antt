-- What stands in a place of a document, where references are followed through the components (Reference Object: OpenAPI 3.1, section
-- 4.8.23; Components Object: section 4.8.7).
use Rattle.std.specs.Prelude.{ℕ, List, length, Option, None, Some, option_and_then, if◌then◌else◌, string_bytes}
use Rattle.std.specs.BTreeMap.{get_by_text}
use Rattle.std.specs.Str.{bytes_eq}
use Rattle.std.proofs.Common.{zero, suc}
use Rattle.utoipa_base.specs.References.{component_map_text, component_of}
use Rattle.utoipa_base.specs.declared.refs.Ref.{Ref}
use Rattle.utoipa_base.specs.declared.refs.RefOr.{RefOr}
use Rattle.utoipa_base.specs.declared.refs.RefOr.TheVariants as places
use Rattle.utoipa_base.specs.declared.refs.component.ComponentMap.{ComponentMap}
use Rattle.utoipa_base.specs.declared.refs.component.ComponentMap.TheVariants.{PathItems}
use Rattle.utoipa_components.specs.Components.{PlacesByName, PathItemsByName}
use Rattle.utoipa_path.specs.declared.types.PathItem.{PathItem}

-- the name of a component, where it stands in this map
abbrev pub name_among : ComponentMap → ComponentMap × List ℕ → Option (List ℕ)
name_among map key = if bytes_eq (component_map_text key.0) (component_map_text map) then Some key.1 else None

-- the name that a reference leads to in this map, where it leads to a component there
abbrev pub name_in : ComponentMap → Ref → Option (List ℕ)
name_in map reference = option_and_then (name_among map) (component_of (string_bytes reference.ref_location))

-- what stands under that name
abbrev pub referred : {X : Type 0} → ComponentMap → PlacesByName X → Ref → Option (RefOr X)
referred map entries reference = option_and_then (get_by_text entries) (name_in map reference)

-- the value in a place: the one that stands there itself, or the value in the place that its reference leads to. At most so many places
-- are looked at
abbrev pub found : {X : Type 0} → (looks : ℕ) → ComponentMap → PlacesByName X → RefOr X → Option X
found zero map entries place = None
found (suc looks) map entries (places.T value) = Some value
found (suc looks) map entries (places.Ref reference) = option_and_then (found looks map entries) (referred map entries reference)

-- the value in a place, which is looked at itself, and after it as many places as the map has entries. No more looks find another value
-- (`found_is_resolved` in proofs/MoreLooks.antt): references that lead past more entries than there are have come back to one of them
abbrev pub resolved : {X : Type 0} → ComponentMap → PlacesByName X → RefOr X → Option X
resolved map entries place = found (suc (length entries.entries)) map entries place

-- the path item in a place: the one that stands there itself, or the one that its reference leads to
abbrev pub resolved_item : PathItemsByName → RefOr PathItem → Option PathItem
resolved_item entries (places.T item) = Some item
resolved_item entries (places.Ref reference) = option_and_then (get_by_text entries) (name_in PathItems reference)
