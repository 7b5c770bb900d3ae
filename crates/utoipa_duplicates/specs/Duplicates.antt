-- For users: the places of a JSON text where a name stands again in its object. RFC 8259, section 4, wants the names of an object to be unique;
-- a reader of trees keeps the last member of a name and drops those before it.
use Rattle.std.specs.Prelude.{ℕ, suc, List, [], ◌∷◌, ◌++◌, map, Option, None, Some, if◌then◌else◌}
use Rattle.std.specs.List.{list_any}
use Rattle.std.specs.Str.{bytes_eq}
use Rattle.json.specs.Json.{Json, null, boolean, number, string, array, object, Items, no_items, item, Members, no_members, member, document}
use Rattle.utoipa_check.specs.Misfits.{Step, at_name, at_index}
use Rattle.utoipa_check.specs.Pointers.{pointer_text}

-- a place, as the steps that lead to it
abbrev pub Place : Type 0
Place = List Step

-- places in a value, by the places of the value that it stands in
abbrev pub behind : Step → List Place → List Place
behind s ps = map (λ p. s ∷ p) ps

-- the place of a member, where its name is one of the earlier
abbrev pub again : (name : List ℕ) → (earlier : List (List ℕ)) → List Place
again name earlier = if list_any (bytes_eq name) earlier then (at_name name ∷ []) ∷ [] else []

unfoldable mutual
  -- the places in a value where a name stands again, in the order of the text
  pub duplicates : Json → List Place
  duplicates null = []
  duplicates (boolean b) = []
  duplicates (number s) = []
  duplicates (string s) = []
  duplicates (array js) = items_duplicates 0 js
  duplicates (object ms) = members_duplicates [] ms

  -- those in items, the first of which has this index
  pub items_duplicates : ℕ → Items → List Place
  items_duplicates i no_items = []
  items_duplicates i (item j js) = behind (at_index i) (duplicates j) ++ items_duplicates (suc i) js

  -- those of members and in them, after members of these names
  pub members_duplicates : (earlier : List (List ℕ)) → Members → List Place
  members_duplicates earlier no_members = []
  members_duplicates earlier (member name j ms) = again name earlier ++ (behind (at_name name) (duplicates j) ++ members_duplicates (name ∷ earlier) ms)

abbrev pub places_in : Option Json → List Place
places_in None = []
places_in (Some j) = duplicates j

-- the JSON Pointers of the places of a text where a name stands again; of a text that is no JSON there is none
abbrev pub duplicates_of_text : List ℕ → List (List ℕ)
duplicates_of_text text = map pointer_text (places_in (document text))
