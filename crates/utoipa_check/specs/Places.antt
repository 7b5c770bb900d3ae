-- The places inside a tree that are looked at, each as what, and what is found there.
use Rattle.std.specs.Prelude.{◌≡◌, ℕ, suc, ◌+◌, ◌*◌, List, [], ◌∷◌, ◌++◌, length, map, if◌then◌else◌, Option, None, Some, option_map, option_and_then, codes}
use Rattle.serde_json.specs.Data.{Data, null, boolean, number, string, array, object, Items, no_items, item, Members, no_members, member}
use Rattle.serde_json.specs.Find.{get}
use Rattle.utoipa_base.specs.Choices.{chosen, scheme_types, api_key_places, flow_keys}
use Rattle.utoipa_base.specs.Extensions.{is_extension}
use Rattle.utoipa_base.specs.Kinds.{ObjectType, Kind, type_word, word_of, list_of, map_of, ordered_map_of, entries_of, ref_or, named, schema, schema_type, array_items, additional_properties, security_scheme, api_key, flows}
use Rattle.utoipa_base.specs.Reading.{text_at}
use Rattle.utoipa_base.specs.Tables.{table}
use Rattle.utoipa_base.specs.Values.{values}
use Rattle.utoipa_tables.specs.Tables.{members_in, schema_members, flow_members}
use Rattle.utoipa_check.specs.Misfits.{Step, at_name, at_index, Misfits, under, checker, flow_misfits, misfits, fractions}

-- ---- trees

-- the members of an object; another tree has none
abbrev pub members_at : Data → Members
members_at null = no_members
members_at (boolean b) = no_members
members_at (number n) = no_members
members_at (string s) = no_members
members_at (array ds) = no_members
members_at (object ms) = ms

-- the items of an array; another tree has none
abbrev pub items_at : Data → Items
items_at null = no_items
items_at (boolean b) = no_items
items_at (number n) = no_items
items_at (string s) = no_items
items_at (array ds) = ds
items_at (object ms) = no_items

-- ---- places

-- what a tree is looked at as
pub data Target : Type 0 where
  -- a document of a kind
  of_kind : Kind → Target
  -- an OAuth flow under a key that names no type
  any_flow : Target
  -- a tree without fractions
  no_fraction : Target

-- what does not fit
abbrev pub found : Target → Data → Misfits
found (of_kind k) d = misfits k d
found any_flow d = flow_misfits None (checker d)
found no_fraction d = fractions d

-- a tree inside another, behind a step
pub record Place : Type 0 where
  pub step : Step
  pub target : Target
  pub tree : Data

abbrev pub place : Step → Target → Data → Place
place s t d = record { step = s; target = t; tree = d }

-- a step, and what is found behind it
abbrev pub Outcome : Type 0
Outcome = Step × Misfits

abbrev pub outcome : Place → Outcome
outcome p = (p.step, found p.target p.tree)

abbrev pub outcomes : List Place → List Outcome
outcomes [] = []
outcomes (p ∷ ps) = outcome p ∷ outcomes ps

-- all that is found behind some steps
abbrev pub joined : List Outcome → Misfits
joined [] = []
joined (o ∷ os) = under o.0 o.1 ++ joined os

-- the values of some places
abbrev pub places_values : List Place → ℕ
places_values [] = 0
places_values (p ∷ ps) = values p.tree + places_values ps

-- ---- the places inside an array

-- the kind of the items of an array of a kind
abbrev pub item_kind : Kind → Option Kind
item_kind (list_of k) = Some k
item_kind schema_type = Some (word_of type_word)
item_kind (ref_or k) = item_kind k
item_kind k = None

abbrev pub item_target : Target → Option Target
item_target (of_kind k) = option_map of_kind (item_kind k)
item_target any_flow = None
item_target no_fraction = Some no_fraction

abbrev pub items_places : Target → ℕ → Items → List Place
items_places t i no_items = []
items_places t i (item d ds) = place (at_index i) t d ∷ items_places t (suc i) ds

abbrev pub array_places : Option Target → Items → List Place
array_places None ds = []
array_places (Some t) ds = items_places t 0 ds

-- ---- the places inside an object

-- which members of an object are looked at, and as what
pub data Layout : Type 0 where
  -- no member
  nothing : Layout
  -- every member
  each_member : Target → Layout
  -- every member that is no extension
  each_entry : Target → Layout
  -- every member, as an OAuth flow of the type that its name chooses
  each_flow : Layout
  -- the members of these names
  some_members : List (List ℕ × Kind) → Layout

-- a flow of the type that its key has chosen
abbrev pub flow_target : Option ObjectType → Target
flow_target None = any_flow
flow_target (Some n) = of_kind (named n)

-- what a member is looked at as, by its name
abbrev pub target_at : Layout → List ℕ → Option Target
target_at nothing name = None
target_at (each_member t) name = Some t
target_at (each_entry t) name = if is_extension name then None else Some t
target_at each_flow name = Some (flow_target (chosen name flow_keys))
target_at (some_members fs) name = None

abbrev pub and_place : Option Target → List ℕ → Data → List Place → List Place
and_place None name d ps = ps
and_place (Some t) name d ps = place (at_name name) t d ∷ ps

abbrev pub members_places : Layout → Members → List Place
members_places l no_members = []
members_places l (member name d ms) = and_place (target_at l name) name d (members_places l ms)

-- the member of a name, if it is there
abbrev pub field_places : List ℕ → Kind → Option Data → List Place
field_places name k None = []
field_places name k (Some d) = place (at_name name) (of_kind k) d ∷ []

abbrev pub fields_places : List (List ℕ × Kind) → Data → List Place
fields_places [] d = []
fields_places (f ∷ fs) d = field_places f.0 f.1 (get f.0 d) ++ fields_places fs d

abbrev pub object_places : Layout → Data → List Place
object_places (some_members fs) d = fields_places fs d
object_places l d = members_places l (members_at d)

-- the kind that the text of a member chooses
abbrev pub chosen_at : List ℕ → List (List ℕ × Kind) → Members → Option Kind
chosen_at name choices ms = option_and_then (λ word. chosen word choices) (text_at name ms)

-- an alternative that a word has chosen
abbrev pub alternative_layout : Option Kind → Layout
alternative_layout (Some (named n)) = some_members (members_in (table n))
alternative_layout o = nothing

abbrev pub api_key_layout : Members → Layout
api_key_layout ms = alternative_layout (chosen_at (codes "in") api_key_places ms)

abbrev pub scheme_layout : Option Kind → Members → Layout
scheme_layout (Some api_key) ms = api_key_layout ms
scheme_layout o ms = alternative_layout o

-- the members of an object of a kind that are looked at, whatever alternative it turns out to be
abbrev pub kind_layout : Kind → Members → Layout
kind_layout (map_of k) ms = each_member (of_kind k)
kind_layout (ordered_map_of k) ms = each_member (of_kind k)
kind_layout (entries_of k) ms = each_entry (of_kind k)
kind_layout (ref_or k) ms = kind_layout k ms
kind_layout (named n) ms = some_members (members_in (table n))
kind_layout schema ms = some_members schema_members
kind_layout array_items ms = some_members schema_members
kind_layout additional_properties ms = some_members schema_members
kind_layout security_scheme ms = scheme_layout (chosen_at (codes "type") scheme_types ms) ms
kind_layout api_key ms = api_key_layout ms
kind_layout flows ms = each_flow
kind_layout k ms = nothing

abbrev pub layout : Target → Members → Layout
layout (of_kind k) ms = kind_layout k ms
layout any_flow ms = some_members flow_members
layout no_fraction ms = each_member no_fraction

-- ---- the places inside a tree: what is found there is all that has to be known of what stands in the tree

abbrev pub inner_places : Target → Data → List Place
inner_places t null = []
inner_places t (boolean b) = []
inner_places t (number n) = []
inner_places t (string s) = []
inner_places t (array ds) = array_places (item_target t) ds
inner_places t (object ms) = object_places (layout t ms) (object ms)

-- ---- a walk over places, by a list of tasks

pub data Task : Type 0 where
  -- to look at a place, and at the places inside it
  visit : Place → Task
  -- to make what is found at a place of what was found inside it, which stands above the outcomes that were there before
  join : Place → ℕ → Task

abbrev pub visits : List Place → List Task
visits [] = []
visits (p ∷ ps) = visit p ∷ visits ps

-- the tasks, done from the first to the last, lead from the results of some places to those at the end, the last result first in each
abbrev pub Reaches : {X : Type 0} → (Place → X) → List X → List Task → List X → Type 0
Reaches f end [] xs = xs ≡ end
Reaches f end (visit p ∷ ts) xs = Reaches f end ts (f p ∷ xs)
Reaches {X} f end (join p n ∷ ts) xs = (rest : List X) × (xs ≡ map f (inner_places p.target p.tree) ++ rest) × (n ≡ length rest) × Reaches f end ts (f p ∷ rest)

-- the values of the places that tasks are still to look at
abbrev pub values_left : List Task → ℕ
values_left [] = 0
values_left (visit p ∷ ts) = values p.tree + values_left ts
values_left (join p n ∷ ts) = values_left ts

-- how much is to be done: a task is taken off, or makes way for smaller ones
abbrev pub work_left : List Task → ℕ
work_left [] = 0
work_left (visit p ∷ ts) = 2 * values p.tree + work_left ts
work_left (join p n ∷ ts) = 1 + work_left ts
