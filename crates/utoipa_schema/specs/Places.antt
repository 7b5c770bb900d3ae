-- The places of schemas in a tree, and the walk that finds them.
--
-- A place is a tree that may be a schema, with whether a reference may stand there.
use Rattle.std.specs.Prelude.{◌≡◌, ℕ, ◌+◌, List, [], ◌∷◌, ◌++◌, Bool, true, false, map, reverse, Option, None, Some, option_map, codes, string_bytes}
use Rattle.std.specs.Borrow.{Bor}
use Rattle.std.specs.Cmp.Lexicographic.{slice_cmp}
use Rattle.std.specs.Ordering.{nat_cmp, match_ordering}
use Rattle.serde_json.specs.Data.{Data, null, boolean, number, string, array, object, Items, no_items, item, Members, no_members, member}
use Rattle.serde_json.specs.Find.{get}
use Rattle.serde_json.specs.View.{view}
use Rattle.serde_json.specs.declared.value.Value.{Value}
use Rattle.utoipa_base.specs.Docs.{Doc, own_doc}
use Rattle.utoipa_base.specs.Kinds.{schema, ref_or}
use Rattle.utoipa_base.specs.Reading.{read}
use Rattle.utoipa_base.specs.Values.{values}
use Rattle.utoipa_schema.specs.declared.places.SchemaPlace.{SchemaPlace}
use Rattle.utoipa_schema.specs.declared.places.Standing.{Standing}
use Rattle.utoipa_schema.specs.declared.places.Standing.TheVariants as standings
use Rattle.utoipa_schema.specs.declared.inner_members.InnerMembers.{InnerMembers}

-- how a place stands in the member that holds it: the member is the place, or a list or a map of places, where it is the first or a
-- later one, in a map under a name
pub data Stands : Type 0 where
  by_itself : Stands
  first_in_list : Stands
  next_in_list : Stands
  first_in_map : List ℕ → Stands
  next_in_map : List ℕ → Stands

pub record Place : Type 0 where
  pub may_be_reference : Bool
  pub tree : Data
  pub stands : Stands

abbrev pub place_at : Bool → Stands → Data → Place
place_at may_be_reference stands d = record { may_be_reference = may_be_reference; tree = d; stands = stands }

-- the document of a place: a schema where no reference may stand is a place's own value too
abbrev pub read_by : Bool → Data → Option Doc
read_by true d = read (ref_or schema) d
read_by false d = option_map own_doc (read schema d)

abbrev pub read_place : Place → Option Doc
read_place p = read_by p.may_be_reference p.tree

abbrev pub stands_as : Standing → Stands
stands_as standings.Alone = by_itself
stands_as standings.FirstInList = first_in_list
stands_as standings.NextInList = next_in_list
stands_as (standings.FirstInMap name) = first_in_map (string_bytes name.now)
stands_as (standings.NextInMap name) = next_in_map (string_bytes name.now)

abbrev pub place_of : SchemaPlace → Place
place_of p = place_at p.may_be_reference (stands_as p.standing) (view p.tree.now)

-- the places that values of the program stand for
abbrev pub places : List SchemaPlace → List Place
places = map place_of

-- ---- the places in a value

abbrev pub items_list : Items → List Data
items_list no_items = []
items_list (item d ds) = d ∷ items_list ds

abbrev pub elements_of : Bool → Items → List Place
elements_of may_be_reference no_items = []
elements_of may_be_reference (item d ds) = place_at may_be_reference first_in_list d ∷ map (place_at may_be_reference next_in_list) (items_list ds)

abbrev pub next_entries : Bool → Members → List Place
next_entries may_be_reference no_members = []
next_entries may_be_reference (member k d ms) = place_at may_be_reference (next_in_map k) d ∷ next_entries may_be_reference ms

abbrev pub entries_of : Bool → Members → List Place
entries_of may_be_reference no_members = []
entries_of may_be_reference (member k d ms) = place_at may_be_reference (first_in_map k) d ∷ next_entries may_be_reference ms

-- the elements of a list; anything else has none
abbrev pub elements : Bool → Data → List Place
elements may_be_reference null = []
elements may_be_reference (boolean b) = []
elements may_be_reference (number n) = []
elements may_be_reference (string s) = []
elements may_be_reference (array ds) = elements_of may_be_reference ds
elements may_be_reference (object ms) = []

-- the values of an object
abbrev pub entries : Bool → Data → List Place
entries may_be_reference null = []
entries may_be_reference (boolean b) = []
entries may_be_reference (number n) = []
entries may_be_reference (string s) = []
entries may_be_reference (array ds) = []
entries may_be_reference (object ms) = entries_of may_be_reference ms

-- the tree itself, which is no place where it is null or a boolean
abbrev pub alone : Bool → Data → List Place
alone may_be_reference null = []
alone may_be_reference (boolean b) = []
alone may_be_reference (number n) = place_at may_be_reference by_itself (number n) ∷ []
alone may_be_reference (string s) = place_at may_be_reference by_itself (string s) ∷ []
alone may_be_reference (array ds) = place_at may_be_reference by_itself (array ds) ∷ []
alone may_be_reference (object ms) = place_at may_be_reference by_itself (object ms) ∷ []

-- the places in a member, if there is one
abbrev pub part : (Data → List Place) → Option Data → List Place
part f None = []
part f (Some d) = f d

-- the places in a member, by its name, that is a list, a map, or one place
abbrev pub in_list : Bool → List ℕ → Data → List Place
in_list may_be_reference name d = part (elements may_be_reference) (get name d)

abbrev pub in_map : Bool → List ℕ → Data → List Place
in_map may_be_reference name d = part (entries may_be_reference) (get name d)

abbrev pub in_one : Bool → List ℕ → Data → List Place
in_one may_be_reference name d = part (alone may_be_reference) (get name d)

-- ---- the members that may hold schemas

-- what they are, each if it is there
pub record InnerData : Type 0 where
  pub one_of : Option Data
  pub all_of : Option Data
  pub any_of : Option Data
  pub items : Option Data
  pub prefix_items : Option Data
  pub properties : Option Data
  pub additional_properties : Option Data
  pub property_names : Option Data
  pub content_schema : Option Data

-- those of a tree
abbrev pub members_of : Data → InnerData
members_of d = record {
  one_of = get (codes "oneOf") d;
  all_of = get (codes "allOf") d;
  any_of = get (codes "anyOf") d;
  items = get (codes "items") d;
  prefix_items = get (codes "prefixItems") d;
  properties = get (codes "properties") d;
  additional_properties = get (codes "additionalProperties") d;
  property_names = get (codes "propertyNames") d;
  content_schema = get (codes "contentSchema") d;
}

-- those that a program has found
abbrev pub found : Option (Bor Value) → Option Data
found = option_map (λ v. view v.now)

abbrev pub data_of : InnerMembers → InnerData
data_of m = record {
  one_of = found m.one_of;
  all_of = found m.all_of;
  any_of = found m.any_of;
  items = found m.items;
  prefix_items = found m.prefix_items;
  properties = found m.properties;
  additional_properties = found m.additional_properties;
  property_names = found m.property_names;
  content_schema = found m.content_schema;
}

-- a member of a name, if it is the one that is wanted, in place of an earlier one
abbrev pub noted : List ℕ → List ℕ → Data → Option Data → Option Data
noted wanted name d earlier = match_ordering (slice_cmp nat_cmp wanted name) earlier (Some d) earlier

abbrev pub with_member : List ℕ → Data → InnerData → InnerData
with_member name d m = record {
  one_of = noted (codes "oneOf") name d m.one_of;
  all_of = noted (codes "allOf") name d m.all_of;
  any_of = noted (codes "anyOf") name d m.any_of;
  items = noted (codes "items") name d m.items;
  prefix_items = noted (codes "prefixItems") name d m.prefix_items;
  properties = noted (codes "properties") name d m.properties;
  additional_properties = noted (codes "additionalProperties") name d m.additional_properties;
  property_names = noted (codes "propertyNames") name d m.property_names;
  content_schema = noted (codes "contentSchema") name d m.content_schema;
}

-- ---- the inner places of a tree, in the order in which they stand in the table

unfoldable pub of_combinations : InnerData → List Place
of_combinations m = part (elements true) m.one_of ++ (part (elements true) m.all_of ++ part (elements true) m.any_of)

unfoldable pub of_array : InnerData → List Place
of_array m = part (alone true) m.items ++ part (elements false) m.prefix_items

unfoldable pub of_object : InnerData → List Place
of_object m = part (entries true) m.properties ++ (part (alone true) m.additional_properties ++ part (alone false) m.property_names)

abbrev pub of_content : InnerData → List Place
of_content m = part (alone true) m.content_schema

unfoldable pub of_each : InnerData → List Place
of_each m = of_combinations m ++ (of_array m ++ (of_object m ++ of_content m))

abbrev pub inner : Data → List Place
inner d = of_each (members_of d)

-- ---- the values of places

unfoldable pub total : List Place → ℕ
total [] = 0
total (p ∷ ps) = values p.tree + total ps

-- ---- the walk from some roots, by the rows of the table, the last first: each row was taken from the end of the stack, and its inner places
-- were put there

unfoldable pub Reached : List Place → List Place → List Place → Type 0
Reached roots [] stack = stack ≡ roots
Reached roots (p ∷ rows) stack = (rest : List Place) × (stack ≡ rest ++ inner p.tree) × Reached roots rows (rest ++ p ∷ [])

abbrev pub Walked : List Place → List Place → List Place → Type 0
Walked roots table stack = Reached roots (reverse table) stack
