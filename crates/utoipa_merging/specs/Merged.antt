-- What it means that documents are merged into one: each slot comes from that slot of all documents at once, by the slot's rule. The order
-- of keys stands apart (`IsInKeyOrder`): of the documents in that order it pins one.
use Rattle.std.specs.Prelude.{◌≡◌, ℕ, List, [], ◌∷◌, ◌++◌, None, map, IfSome, codes}
use Rattle.std.specs.List.{list_any}
use Rattle.std.specs.List.Sorted.{IsStrictlySortedBy}
use Rattle.std.specs.Map.{keys_of}
use Rattle.std.specs.Ordering.{nat_cmp}
use Rattle.std.specs.Cmp.Lexicographic.{slice_cmp}
use Rattle.serde_json.specs.Data.{Members, no_members, member}
use Rattle.utoipa_base.specs.Kinds.{named, open_api_object}
use Rattle.utoipa_base.specs.Docs.{Doc, none_doc, entries_doc, no_entries}
use Rattle.utoipa_base.specs.Extensions.{members_or_none}
use Rattle.utoipa_base.specs.Shape.{IsOf, value_of}
use Rattle.utoipa_merging.specs.Rules.{first_of, last_of, given, AreJoined}
use Rattle.utoipa_merging.specs.Slots.{ComponentMap, map_member, Joined, ItemSlot, item_slot, path_slot, has_extensions, extension_at, component_at, is_there, items_in, entries_in, entry_at, extensions_in, field_at, parts, fixed_members, joined_of, paths_of, components_of}

-- an OpenAPI Object (section 4.8.1)
abbrev pub IsOpenApi : Doc → Type 0
IsOpenApi d = IsOf d (value_of (named open_api_object))

-- ---- the parts of documents that are merged

-- Lists that may be absent. The list is there where any of them is, and an entry stays where no earlier list has an equal one; so what
-- one list repeats stays repeated, and of lists that are all empty comes an empty list.
pub record IsListMerged (lists : List Doc) (list : Doc) : Type 0 where
  pub there : is_there list ≡ list_any is_there lists
  pub entries : AreJoined [] (map items_in lists) (items_in list)

-- Path items. The members that are no operations are the first item's, and an operation is that of the first item that has one there.
abbrev pub IsItemMerged : (items : List Doc) (item : Doc) → Type 0
IsItemMerged items item = (s : ItemSlot) → item_slot s item ≡ first_of (map (item_slot s) items)

-- Path items by their paths. At a path stand the merged items of that path.
abbrev pub AreItemsMerged : (all : List Doc) (paths : Doc) → Type 0
AreItemsMerged all paths = (path : List ℕ) (s : ItemSlot) → path_slot path s paths ≡ first_of (map (path_slot path s) all)

-- Paths. An extension is that of the last paths that have one of its name.
pub record ArePathsMerged (all : List Doc) (paths : Doc) : Type 0 where
  pub items : AreItemsMerged all paths
  pub extended : has_extensions paths ≡ list_any has_extensions all
  pub extensions : (name : List ℕ) → extension_at name paths ≡ last_of (map (extension_at name) all)

-- Components that may be absent. They are there where any are. An entry of a map is that of the first components that have one of its
-- name there, whole; the extensions are those of the first document, and none where it has no components.
pub record AreComponentsMerged (all : List Doc) (components : Doc) : Type 0 where
  pub there : is_there components ≡ list_any is_there all
  pub maps : (m : ComponentMap) (name : List ℕ) → component_at m name components ≡ first_of (map (component_at m name) all)
  pub extensions : given extensions_in components ≡ first_of (map (given extensions_in) all)

-- ---- documents that are merged

-- d is what the documents are merged into. Of no documents there is no such d.
pub record IsMerged (documents : List Doc) (d : Doc) : Type 0 where
  pub of_kind : IsOpenApi d
  -- version, info, webhooks, external docs, dialect, `$schema`, `$self` and the document's own extensions are the first document's
  pub fixed : given (parts fixed_members) d ≡ first_of (map (given (parts fixed_members)) documents)
  pub lists : (j : Joined) → IsListMerged (map (joined_of j) documents) (joined_of j d)
  pub paths : ArePathsMerged (map paths_of documents) (paths_of d)
  pub components : AreComponentsMerged (map components_of documents) (components_of d)

-- ---- documents whose maps stand in the order of their keys

-- each name is below those after it, byte by byte
abbrev pub Ascends : List (List ℕ) → Type 0
Ascends names = IsStrictlySortedBy (slice_cmp nat_cmp) names

-- the names of the entries ascend
abbrev pub IsInOrder : Doc → Type 0
IsInOrder d = Ascends (keys_of (entries_in d))

-- the names of members
abbrev pub names_in : Members → List (List ℕ)
names_in no_members = []
names_in (member name d ms) = name ∷ names_in ms

-- the paths, their extensions, and the additional operations of each item
pub record ArePathsInOrder (paths : Doc) : Type 0 where
  pub entries : IsInOrder paths
  pub extensions : Ascends (names_in (members_or_none (extensions_in paths)))
  pub operations : (path : List ℕ) → IfSome (entry_at path paths) (λ item. IsInOrder (field_at (codes "additionalOperations") item))

-- the maps that merging fills are in order, as every `BTreeMap` is
pub record IsInKeyOrder (d : Doc) : Type 0 where
  pub paths : ArePathsInOrder (paths_of d)
  pub components : (m : ComponentMap) → IsInOrder (field_at (map_member m) (components_of d))

-- ---- documents that add nothing

-- the document has no list that could be joined, not even an empty one, no path, no Paths extensions and no components
pub record AddsNothing (d : Doc) : Type 0 where
  pub no_lists : (j : Joined) → joined_of j d ≡ none_doc
  pub no_paths : paths_of d ≡ entries_doc no_entries None
  pub no_components : components_of d ≡ none_doc

-- ---- brackets

-- documents in brackets
pub data Brackets : Type 0 where
  one : Doc → Brackets
  pair : Brackets → Brackets → Brackets

-- the documents from left to right
abbrev pub leaves : Brackets → List Doc
leaves (one d) = d ∷ []
leaves (pair l r) = leaves l ++ leaves r

-- d is what the documents are merged into pair by pair, the inner pairs first
abbrev pub IsMergedByPairs : Brackets → Doc → Type 0
IsMergedByPairs (one e) d = IsOpenApi e × (d ≡ e)
IsMergedByPairs (pair l r) d = (a b : Doc) × IsMergedByPairs l a × IsMergedByPairs r b × IsMerged (a ∷ b ∷ []) d
