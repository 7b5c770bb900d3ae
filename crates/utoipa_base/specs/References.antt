-- References that are made from names and by builders, and which component a reference leads to.
use Rattle.std.specs.Prelude.{◌≡◌, ◌≢◌, ◌==◌, ◌++◌, if◌then◌else◌, ℕ, Bool, true, List, [], ◌∷◌, map, Option, None, Some, option_and_then, option_map, codes, String, string_bytes}
use Rattle.std.specs.List.{slice_split}
use Rattle.std.specs.Str.{bytes_eq, is_utf8}
use Rattle.std.specs.Cow.{cow_str_bytes}
use Rattle.percent_encoding.specs.Percent.{percent_decode}
use Rattle.serde_json.specs.Data.{Data, Items, array}
use Rattle.serde_json.specs.Find.{get, pointer, unescape}
use Rattle.std.specs.declared.alloc.Global.{Global}
use Rattle.utoipa_base.specs.declared.refs.Ref.{Ref}
use Rattle.utoipa_base.specs.Vocabularies.{with_text}
use Rattle.utoipa_base.specs.declared.refs.builder.RefBuilder.{RefBuilder}
use Rattle.utoipa_base.specs.declared.refs.component.ComponentKey.{ComponentKey}
use Rattle.utoipa_base.specs.declared.refs.component.ComponentMap.{ComponentMap}
use Rattle.utoipa_base.specs.declared.refs.component.ComponentMap.TheVariants as maps

-- where a schema of the components stands
abbrev pub schema_location : List ℕ → List ℕ
schema_location name = codes "#/components/schemas/" ++ name

-- where a response of the components stands
abbrev pub response_location : List ℕ → List ℕ
response_location name = codes "#/components/responses/" ++ name

-- nothing stands beside the location
abbrev pub StandsAlone : Ref → Type 0
StandsAlone r = (string_bytes r.description ≡ []) × (string_bytes r.summary ≡ []) × (r.read_only ≡ None) × (r.write_only ≡ None) × (r.default ≡ None) × (r.title ≡ None)

-- the text that was handed over, or the empty text where none was
abbrev pub IsGivenOrEmpty : Option (String Global) → String Global → Type 0
IsGivenOrEmpty None s = string_bytes s ≡ []
IsGivenOrEmpty (Some given) s = s ≡ given

-- the reference of a builder so far
abbrev pub built_reference : RefBuilder → Ref
built_reference b = b.reference

-- ---- the place that a reference leads to

-- where a reference leads, by its text
pub data Target : Type 0 where
  -- out of the document, or to a place of it that no path names, as `#name` does
  elsewhere : Target
  -- to no place of the document: its fragment is not UTF-8
  nowhere : Target
  -- to the place of the document that this JSON Pointer names (RFC 6901, section 3)
  place : (pointer : List ℕ) → Target

abbrev pub is_slash : ℕ → Bool
is_slash c = c == 47

-- whether a text is a JSON Pointer: empty, or of tokens, each after a `/`
abbrev pub is_pointer : List ℕ → Bool
is_pointer [] = true
is_pointer (c ∷ cs) = is_slash c

-- by a text without escapes: a JSON Pointer, or a text that names no place by its path
abbrev pub target_of_text : List ℕ → Target
target_of_text bs = if is_pointer bs then place bs else elsewhere

-- by a fragment that has been percent-decoded (RFC 6901, section 6): no place has a name that is not UTF-8
abbrev pub target_of_fragment : List ℕ → Target
target_of_fragment bs = if is_utf8 bs then target_of_text bs else nowhere

-- `#` and a fragment, which is percent-decoded (RFC 3986, section 2.1), is local; any other reference is not
abbrev pub target_of : List ℕ → Target
target_of [] = elsewhere
target_of (c ∷ cs) = if c == 35 then target_of_fragment (percent_decode cs) else elsewhere

-- the names on the path of a JSON Pointer: its tokens, in which `~1` stands for `/` and `~0` for `~` (RFC 6901, sections 3 and 4)
abbrev pub path_of : List ℕ → List (List ℕ)
path_of [] = []
path_of (c ∷ cs) = if is_slash c then map unescape (slice_split is_slash cs) else []

-- what stands at a target in the tree of a document
abbrev pub at_target : Target → Data → Option Data
at_target elsewhere d = None
at_target nowhere d = None
at_target (place bs) d = pointer bs d

-- ---- the component that a reference leads to

-- the field of a map
abbrev pub component_map_text : ComponentMap → List ℕ
component_map_text maps.Callbacks = codes "callbacks"
component_map_text maps.Examples = codes "examples"
component_map_text maps.Headers = codes "headers"
component_map_text maps.Links = codes "links"
component_map_text maps.MediaTypes = codes "mediaTypes"
component_map_text maps.Parameters = codes "parameters"
component_map_text maps.PathItems = codes "pathItems"
component_map_text maps.RequestBodies = codes "requestBodies"
component_map_text maps.Responses = codes "responses"
component_map_text maps.Schemas = codes "schemas"
component_map_text maps.SecuritySchemes = codes "securitySchemes"

-- each map, in the order of the fields
abbrev pub every_component_map : List ComponentMap
every_component_map = maps.Callbacks ∷ maps.Examples ∷ maps.Headers ∷ maps.Links ∷ maps.MediaTypes ∷ maps.Parameters ∷ maps.PathItems ∷ maps.RequestBodies ∷ maps.Responses ∷ maps.Schemas ∷ maps.SecuritySchemes ∷ []

-- what stands behind a front, where a text begins with it
abbrev pub behind : (front s : List ℕ) → Option (List ℕ)
behind [] s = Some s
behind (c ∷ cs) [] = None
behind (c ∷ cs) (b ∷ bs) = if b == c then behind cs bs else None

-- the component at a path from the root of a document: `components`, the field of a map, and a name (Components Object: OpenAPI 3.1,
-- section 4.8.7)
abbrev pub component_at : (path : List (List ℕ)) → Option (ComponentMap × List ℕ)
component_at [] = None
component_at (root ∷ []) = None
component_at (root ∷ field ∷ []) = None
component_at (root ∷ field ∷ name ∷ []) = if bytes_eq root (codes "components") then option_map (λ found. (found, name)) (with_text component_map_text every_component_map field) else None
component_at (root ∷ field ∷ name ∷ inner ∷ more) = None

abbrev pub component_at_target : Target → Option (ComponentMap × List ℕ)
component_at_target elsewhere = None
component_at_target nowhere = None
component_at_target (place bs) = component_at (path_of bs)

-- the component that a reference leads to (Reference Object: OpenAPI 3.1, section 4.8.23)
abbrev pub component_of : List ℕ → Option (ComponentMap × List ℕ)
component_of location = component_at_target (target_of location)

-- the map and the name of a key
abbrev pub key_of : ComponentKey → ComponentMap × List ℕ
key_of k = (k.map, cow_str_bytes k.name)

-- ---- the components of a tree

-- what stands in a field of the components
abbrev pub field_of_components : (field : List ℕ) → Data → Option Data
field_of_components field d = option_and_then (get field) (get (codes "components") d)

-- an entry of a map of the components
abbrev pub component : (field name : List ℕ) → Data → Option Data
component field name d = option_and_then (get name) (field_of_components field d)

-- no list stands there in place of a map
abbrev pub IsNoList : Option Data → Type 0
IsNoList found = (ds : Items) → found ≢ Some (array ds)
