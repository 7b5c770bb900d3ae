-- What an OpenAPI document that is nested and the one that it is nested into lose, told by what comes of it.
use Rattle.std.specs.Prelude.{◌≡◌, ◌⊎◌, ℕ, List, Bool, true, false, All}
use Rattle.serde_json.specs.Data.{Data}
use Rattle.utoipa_base.specs.Docs.{Doc}
use Rattle.utoipa_base.specs.Extensions.{is_extension}
use Rattle.utoipa_base.specs.WellFormed.{IsUnambiguous}
use Rattle.utoipa_merging.specs.Merged.{IsOpenApi, IsInKeyOrder}
use Rattle.utoipa_base.specs.Writing.{write}
use Rattle.utoipa_merging.specs.Nested.{IsNested}
use Rattle.utoipa_conflicts.specs.Conflicts.{Slot, document_member, component_entry, components_extension, paths_extension, operation, named_operation, base_member, place, place_of_item, slots}
use Rattle.utoipa_conflicts.specs.IsConflict.{IsOneOf}
use Rattle.utoipa_conflicts.specs.Nested.{ItemAt, path_items, answered}
use Rattle.utoipa_conflicts.specs.Same.{is_value}
use Rattle.utoipa_conflicts.specs.Trees.{Place, at_place}

-- no name of these is an extension's
abbrev pub IsNoExtension : List ℕ → Type 0
IsNoExtension name = is_extension name ≡ false

-- Two unambiguous documents, the composer's answers to the paths of the second, and what comes of nesting it into the first.
pub record AreNestedInto (answers : List (List ℕ)) (own other d : Doc) : Type 0 where
  pub own_kind : IsOpenApi own
  pub other_kind : IsOpenApi other
  pub own_unambiguous : IsUnambiguous own
  pub other_unambiguous : IsUnambiguous other
  pub own_ordered : IsInKeyOrder own
  pub other_ordered : IsInKeyOrder other
  pub answered : All IsNoExtension answers
  pub nested : IsNested answers own other d
  pub ordered : IsInKeyOrder d

-- whether a slot is one of the item at a path, which nesting puts whole
abbrev pub is_of_item : Slot → Bool
is_of_item (document_member name) = false
is_of_item (component_entry kind name) = false
is_of_item (components_extension name) = false
is_of_item (paths_extension name) = false
is_of_item (operation path method) = true
is_of_item (named_operation path name) = true
is_of_item (base_member path name) = true

-- one of these items is at this place, and d does not have it there
abbrev pub IsItemLost : List ItemAt → Doc → Place → Type 0
IsItemLost items d p = (i : ItemAt) × IsOneOf i items × (p ≡ place_of_item i.0) × (is_value i.1 (at_place p (write d)) ≡ false)

-- a document has in a slot at this place, which is none of an item, a value that d does not have there
abbrev pub IsRestLost : Doc → Doc → Place → Type 0
IsRestLost other d p = (s : Slot) × (v : Data) × (p ≡ place s) × IsOneOf (s, v) (slots (write other)) × (is_of_item s ≡ false) × (is_value v (at_place p (write d)) ≡ false)

-- document 0 has an item at this place, or document 1 an item that is put there or a value in a slot there, and d has another value there, or none
abbrev pub IsLostByNesting : (answers : List (List ℕ)) (own other d : Doc) → Place → ℕ → Type 0
IsLostByNesting answers own other d p j =
    ((j ≡ 0) × IsItemLost (path_items (write own)) d p)
    ⊎ ((j ≡ 1) × (IsItemLost (answered answers (path_items (write other))) d p ⊎ IsRestLost other d p))
