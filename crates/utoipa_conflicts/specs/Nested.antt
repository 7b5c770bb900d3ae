-- What is dropped where an OpenAPI document is nested into another. A composer of paths answers to each of its paths where the item is to stand;
-- there it stands whole, in place of one that stood there, and of two with one answer the later. The extensions of its paths are dropped, and
-- the rest is merged.
use Rattle.std.specs.Prelude.{ℕ, List, [], ◌∷◌, ◌++◌, Bool, true, false, if◌then◌else◌, Option, None, Some, map, codes}
use Rattle.std.specs.List.{flat_map}
use Rattle.std.specs.Str.{bytes_eq}
use Rattle.serde_json.specs.Data.{Data}
use Rattle.serde_json.specs.Find.{get}
use Rattle.utoipa_base.specs.Docs.{Doc}
use Rattle.utoipa_base.specs.Extensions.{is_extension}
use Rattle.utoipa_base.specs.EachMember.{each_member}
use Rattle.utoipa_base.specs.Writing.{write}
use Rattle.utoipa_check.specs.Places.{members_at}
use Rattle.utoipa_merging.specs.Rules.{last_of}
use Rattle.utoipa_conflicts.specs.Conflicts.{Slot, document_member, component_entry, components_extension, paths_extension, operation, named_operation, base_member, component, has, place_of_item, slots, Conflict, dropped_by}
use Rattle.utoipa_conflicts.specs.Merged.{Told, in_text}
use Rattle.utoipa_conflicts.specs.Same.{is_same}
use Rattle.utoipa_conflicts.specs.Trees.{Place}

-- ---- items

-- a path, with its item
abbrev pub ItemAt : Type 0
ItemAt = List ℕ × Data

abbrev pub item_unless_extension : List ℕ → Data → List ItemAt
item_unless_extension path d = if is_extension path then [] else (path, d) ∷ []

-- the items of `paths`
abbrev pub items_in : Option Data → List ItemAt
items_in None = []
items_in (Some paths) = each_member item_unless_extension (members_at paths)

-- those of a document
abbrev pub path_items : Data → List ItemAt
path_items d = items_in (get (codes "paths") d)

-- their paths, to which a composer answers one after the other
abbrev pub nested_paths : Data → List (List ℕ)
nested_paths d = map (λ i. i.0) (path_items d)

-- items, each at the composer's answer to its path
abbrev pub answered : (answers : List (List ℕ)) → List ItemAt → List ItemAt
answered [] items = []
answered (answer ∷ answers) [] = []
answered (answer ∷ answers) (i ∷ items) = (answer, i.1) ∷ answered answers items

-- the item, if it stands at this path
abbrev pub item_if : List ℕ → ItemAt → Option Data
item_if path i = if bytes_eq path i.0 then Some i.1 else None

-- what is put at a path where these are put, one after the other
abbrev pub put_at : List ItemAt → List ℕ → Option Data
put_at items path = last_of (map (item_if path) items)

-- ---- what is dropped

-- a value is dropped where another one is put
abbrev pub unless_same : Place → (kept dropped : ℕ) → Data → Option Data → List Conflict
unless_same p i j d None = []
unless_same p i j d (Some e) = if is_same d e then [] else (p, i, j) ∷ []

-- items of document j, where those of document 1 are put
abbrev pub covered : List ItemAt → ℕ → List ItemAt → List Conflict
covered put j items = flat_map (λ i. unless_same (place_of_item i.0) 1 j i.1 (put_at put i.0)) items

-- whether the document that is nested into decides a slot over the nested one, whose items do not stand in it
abbrev pub own_decides : Slot → Data → Bool
own_decides (document_member name) own = true
own_decides (component_entry kind name) own = has (component kind name) own
own_decides (components_extension name) own = true
own_decides (paths_extension name) own = true
own_decides (operation path method) own = false
own_decides (named_operation path name) own = false
own_decides (base_member path name) own = false

-- what is dropped of the nested document but for its items
abbrev pub rest_dropped : (own nested : Data) → List Conflict
rest_dropped own nested = flat_map (λ s. if own_decides s.0 own then dropped_by 1 s (Some (0, own)) else []) (slots nested)

-- What is dropped where a document, 1, is nested into another, 0, and the composer answers so to its paths: items of document 0, in whose
-- place nested ones stand; nested items, in whose place later ones do; and of the rest of document 1 what document 0 decides. Each place is one
-- of what comes of it.
abbrev pub nested_conflicts : (answers : List (List ℕ)) (own nested : Data) → List Conflict
nested_conflicts answers own nested =
    let put = answered answers (path_items nested) in
    covered put 0 (path_items own) ++ (covered put 1 put ++ rest_dropped own nested)

-- the same of documents, each place as a text
abbrev pub told_nested : (answers : List (List ℕ)) (own nested : Doc) → List Told
told_nested answers own nested = map in_text (nested_conflicts answers (write own) (write nested))

-- the answers of a composer that puts a base before each path
abbrev pub behind : (base : List ℕ) (nested : Data) → List (List ℕ)
behind base nested = map (λ i. base ++ i.0) (path_items nested)
