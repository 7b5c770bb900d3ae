-- What documents that are merged lose, told by the document that they are merged into.
use Rattle.std.specs.Prelude.{◌≡◌, ◌↔◌, ℕ, List, [], Bool, false, not, ◌||◌, ◌&&◌, All, IsTrue, map, codes}
use Rattle.std.specs.Str.{bytes_eq}
use Rattle.serde_json.specs.Data.{Data}
use Rattle.utoipa_base.specs.Docs.{Doc}
use Rattle.utoipa_base.specs.Extensions.{is_extension}
use Rattle.utoipa_base.specs.WellFormed.{IsUnambiguous}
use Rattle.utoipa_base.specs.Writing.{write}
use Rattle.utoipa_merging.specs.Merged.{IsOpenApi, IsMerged, IsInKeyOrder}
use Rattle.utoipa_check.specs.Pointers.{pointer_text}
use Rattle.utoipa_conflicts.specs.Conflicts.{is_joined, is_method, Slot, document_member, component_entry, components_extension, paths_extension, operation, named_operation, base_member, place, Conflict, conflicts}
use Rattle.utoipa_conflicts.specs.IsConflict.{IsOneOf, HasValue}
use Rattle.utoipa_conflicts.specs.Same.{is_value}
use Rattle.utoipa_conflicts.specs.Trees.{Place, at_place}

-- whether a slot is one that some document may have: its names say what it is
abbrev pub is_slot : Slot → Bool
is_slot (document_member name) = not (bytes_eq name (codes "paths") || (bytes_eq name (codes "components") || is_joined name))
is_slot (component_entry kind name) = not (is_extension kind)
is_slot (components_extension name) = is_extension name
is_slot (paths_extension name) = is_extension name
is_slot (operation path method) = not (is_extension path) && is_method method
is_slot (named_operation path name) = not (is_extension path)
is_slot (base_member path name) = not (is_extension path) && not (bytes_eq name (codes "additionalOperations") || is_method name)

-- the trees that documents are written as
abbrev pub written : List Doc → List Data
written ds = map write ds

-- Unambiguous documents, and the one that they are merged into.
pub record AreMergedInto (documents : List Doc) (d : Doc) : Type 0 where
  pub each : All IsOpenApi documents
  pub unambiguous : All IsUnambiguous documents
  pub merged : IsMerged documents d
  pub ordered : IsInKeyOrder d

-- whether a document has this value in this slot
abbrev pub has_value : Doc → Slot → Data → Bool
has_value d s v = is_value v (at_place (place s) (write d))

-- each value that one of the documents has in a slot stands in that slot of d
abbrev pub IsAllThere : List Doc → Doc → Type 0
IsAllThere documents d = (j : ℕ) (s : Slot) (v : Data) → HasValue (written documents) j s v → IsTrue (has_value d s v)

-- document j has in a slot at this place a value that d does not have there
abbrev pub IsLost : List Doc → Doc → Place → ℕ → Type 0
IsLost documents d p j = (s : Slot) × (v : Data) × (p ≡ place s) × HasValue (written documents) j s v × (has_value d s v ≡ false)

-- a conflict with its place as a text, a JSON Pointer
abbrev pub Told : Type 0
Told = List ℕ × ℕ × ℕ

abbrev pub in_text : Conflict → Told
in_text c = (pointer_text c.0, c.1, c.2)

-- the conflicts of documents, in text
abbrev pub told : List Doc → List Told
told documents = map in_text (conflicts (written documents))

-- These tell what d lacks of the documents, the truth and all of it: each is of a value that is lost, and each value that is lost is told; and
-- there is none exactly where each value is there.
pub record TellWhatIsLost (documents : List Doc) (d : Doc) (cs : List Told) : Type 0 where
  pub truth : (text : List ℕ) (i j : ℕ) → IsOneOf (text, i, j) cs → (p : Place) × (text ≡ pointer_text p) × IsLost documents d p j
  pub all : (p : Place) (j : ℕ) → IsLost documents d p j → (i : ℕ) × IsOneOf (pointer_text p, i, j) cs
  pub nothing : (cs ≡ []) ↔ IsAllThere documents d
