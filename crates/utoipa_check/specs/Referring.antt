-- Where a reference leads, by its text and by the tree of the document that it stands in.
use Rattle.std.specs.Prelude.{◌≡◌, ℕ, List, [], ◌∷◌, ◌==◌, ◌&&◌, ◌||◌, Bool, true, false, not, nat_lt, if◌then◌else◌, Option, None, Some, is_some, codes}
use Rattle.std.specs.List.{list_any}
use Rattle.serde_json.specs.Data.{Data}
use Rattle.serde_json.specs.Find.{pointer}
use Rattle.utoipa_base.specs.References.{Target, elsewhere, nowhere, place, target_of, component, component_of, component_map_text}
use Rattle.utoipa_base.specs.declared.refs.component.ComponentMap.{ComponentMap}

-- what has become of a reference
pub data State : Type 0 where
  -- it is local and leads to nothing in the tree
  dangling : State
  -- it is local and leads to a place in the tree
  resolved : State
  -- it leads out of the tree, or names a place of it by no path
  external : State

abbrev pub leads : Option Data → State
leads None = dangling
leads (Some d) = resolved

-- ---- references

-- by where the text leads
abbrev pub target_state : Target → Data → State
target_state elsewhere d = external
target_state nowhere d = dangling
target_state (place bs) d = leads (pointer bs d)

-- Which texts are local, and where they lead, is a definition of utoipa_base: the one by which `component` of a Ref finds its component.
abbrev pub reference_state : List ℕ → Data → State
reference_state s d = target_state (target_of s) d

-- ---- names

-- a letter of a component's name: `a` to `z`, `A` to `Z`, `0` to `9`, `.`, `-` or `_`
abbrev pub is_name_letter : ℕ → Bool
is_name_letter c = (nat_lt 96 c && nat_lt c 123) || ((nat_lt 64 c && nat_lt c 91) || ((nat_lt 47 c && nat_lt c 58) || (c == 45 || (c == 46 || c == 95))))

-- whether a text is a name that a component may have (section 4.8.7): one or more of these letters
abbrev pub is_plain_name : List ℕ → Bool
is_plain_name [] = false
is_plain_name (c ∷ cs) = not (list_any (λ x. not (is_name_letter x)) (c ∷ cs))

-- a text of a discriminator's mapping (Discriminator Object: section 4.8.25): the name of a schema, or else a reference
abbrev pub mapping_state : List ℕ → Data → State
mapping_state s d = if is_plain_name s then leads (component (codes "schemas") s d) else reference_state s d

-- a name of a security requirement (Security Requirement Object: section 4.8.30)
abbrev pub requirement_state : List ℕ → Data → State
requirement_state s d = leads (component (codes "securitySchemes") s d)

-- ---- any of them

-- how a text refers
pub data Way : Type 0 where
  -- as a reference
  by_reference : Way
  -- as a text of a discriminator's mapping
  by_mapping : Way
  -- as a name of a security requirement
  by_requirement : Way

abbrev pub state : Way → List ℕ → Data → State
state by_reference s d = reference_state s d
state by_mapping s d = mapping_state s d
state by_requirement s d = requirement_state s d

-- ---- components

-- a text leads to a component by the definition of utoipa_base, and the tree has that component
pub record LeadsToComponent (s : List ℕ) (d : Data) : Type 0 where
  pub map : ComponentMap
  pub name : List ℕ
  pub led : component_of s ≡ Some (map, name)
  pub stands : is_some (component (component_map_text map) name d) ≡ true
