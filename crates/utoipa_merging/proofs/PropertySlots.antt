-- What is asked of a document is asked of what is looked for in it, and of its slots.
use Rattle.std.proofs.Common.{◌≡◌, ℕ, suc, List, [], ◌∷◌, Bool, true, false, Option, Some, None, IfSome, option_and_then, map, if◌then◌else◌, subst, codes}
use Rattle.std.specs.List.{AllByRecursion}
use Rattle.std.specs.Str.{bytes_eq}
use Rattle.std.proofs.lemmas.Option.{IfSome_then}
use Rattle.serde_json.specs.Data.{no_members}
use Rattle.utoipa_base.specs.Kinds.{Row}
use Rattle.utoipa_base.specs.Docs.{Doc, none_doc, some_doc, list_doc, map_doc, entries_doc, table_doc, Docs, entries_of_list}
use Rattle.utoipa_base.specs.Tables.{table}
use Rattle.utoipa_merging.specs.Slots.{first_doc, rest_docs, row_field, field_at, extensions_in, held, items_in, pairs_in, entries_in, entry_at, parts, fixed_members, base_members, Joined, joined_member, joined_of, method_member, ComponentMap, map_member, ItemSlot, base, operation, additional, item_slot, path_slot, extension_at, component_at, paths_of, components_of}
use Rattle.utoipa_merging.proofs.InOrder.{found_of_all}
use Rattle.utoipa_merging.proofs.Properties.{AllFields, IsLevel, level_0, level_1, level_2, level_3, Property}

-- what follows of each follows of all
pub all_then : {X : Type 0} {P Q : X → Type 0} → ((x : X) → P x → Q x) → (xs : List X) → AllByRecursion P xs → AllByRecursion Q xs
all_then each [] h = tt
all_then each (x ∷ xs) h = (each x h.0, all_then each xs h.1)

-- what holds of any holds of all
pub all_any : {X : Type 0} {P : X → Type 0} → ((x : X) → P x) → (xs : List X) → AllByRecursion P xs
all_any each [] = tt
all_any each (x ∷ xs) = (each x, all_any each xs)

-- and of one that may be there
pub if_any : {X : Type 0} {P : X → Type 0} → ((x : X) → P x) → (o : Option X) → IfSome o P
if_any each None = tt
if_any each (Some x) = each x

-- ---- what is looked for in a document

either_has : (P : Doc → Type 0) (b : Bool) (c d : Doc) → P c → P d → P (if b then c else d)
either_has P true c d h g = h
either_has P false c d h g = g

row_has : (P : Doc → Type 0) → P none_doc → (name : List ℕ) (rs : List Row) (ds : Docs) → AllFields P rs ds → P (row_field name rs ds)
row_has P none name [] ds h = none
row_has P none name (r ∷ rs) ds h = either_has P (bytes_eq name r.name) (first_doc ds) (row_field name rs (rest_docs ds)) h.0 (row_has P none name rs (rest_docs ds) h.1)

-- a field
pub field_has : (p : Property) (k : ℕ) (name : List ℕ) (d : Doc) → IsLevel k → p.Has k d → p.Has (suc k) (field_at name d)
field_has p k name (some_doc d) l h = field_has p k name d l (p.in_some k d h)
field_has p k name (table_doc n ds e) l h = row_has (p.Has (suc k)) (p.none k l) name (table n) ds (p.in_table k n ds e l h)
field_has p k name d l h = p.none k l

-- the extensions
pub extensions_have : (p : Property) (k : ℕ) (d : Doc) → IsLevel k → p.Has k d → p.Extends k (extensions_in d)
extensions_have p k (some_doc d) l h = extensions_have p k d l (p.in_some k d h)
extensions_have p k (table_doc n ds e) l h = p.beside_table k n ds e l h
extensions_have p k (entries_doc es e) l h = p.beside_object k es e l h
extensions_have p k d l h = p.no_extensions k l

-- what a field holds
held_has : (p : Property) (k : ℕ) (d : Doc) → p.Has k d → IfSome (held d) (p.Has k)
held_has p k (some_doc d) h = p.in_some k d h
held_has p k d h = tt

-- the items of a list
pub items_have : (p : Property) (k : ℕ) (d : Doc) → IsLevel k → p.Has k d → AllByRecursion (p.Has (suc k)) (items_in d)
items_have p k (some_doc d) l h = items_have p k d l (p.in_some k d h)
items_have p k (list_doc ds) l h = p.in_list k ds l h
items_have p k d l h = tt

-- what is asked of a document that stands under a name
abbrev pub HasUnder : Property → ℕ → List ℕ → Doc → Type 0
HasUnder p k name d = p.Has k d × p.Stands name d

-- the entries of a map
pub entries_have : (p : Property) (k : ℕ) (d : Doc) → IsLevel k → p.Has k d → AllByRecursion (λ e. HasUnder p (suc k) e.0 e.1) (entries_in d)
entries_have p k (some_doc d) l h = entries_have p k d l (p.in_some k d h)
entries_have p k (map_doc es) l h = p.in_map k es l h
entries_have p k (entries_doc es e) l h = all_then (λ x g. (g.0, g.1)) (pairs_in es) (p.in_object k es e l h)
entries_have p k d l h = tt

-- an entry
pub entry_has : (p : Property) (k : ℕ) (name : List ℕ) (d : Doc) → IsLevel k → p.Has k d → IfSome (entry_at name d) (HasUnder p (suc k) name)
entry_has p k name d l h = found_of_all (HasUnder p (suc k)) (entries_in d) name (entries_have p k d l h)

-- an extension, by the extensions
pub extension_has : (p : Property) (k : ℕ) (name : List ℕ) (d : Doc) → p.Extends k (extensions_in d) → IfSome (extension_at name d) (p.Extension k name)
extension_has p k name d h = p.extension k (extensions_in d) h name

-- ---- parts that stay together

-- what is asked of parts of an object that stands this deep
abbrev pub HasParts : Property → ℕ → Doc → Type 0
HasParts p k d = AllByRecursion (λ e. p.Has (suc k) e.1) (entries_in d) × p.Extends k (extensions_in d)

fields_have : (p : Property) (k : ℕ) (names : List (List ℕ)) (d : Doc) → IsLevel k → p.Has k d
    → AllByRecursion (λ e. p.Has (suc k) e.1) (pairs_in (entries_of_list (map (λ name. (name, field_at name d)) names)))
fields_have p k [] d l h = tt
fields_have p k (name ∷ names) d l h = (field_has p k name d l h, fields_have p k names d l h)

pub parts_have : (p : Property) (k : ℕ) (names : List (List ℕ)) (d : Doc) → IsLevel k → p.Has k d → HasParts p k (parts names d)
parts_have p k names d l h = (fields_have p k names d l h, extensions_have p k d l h)

-- a part, by its name
pub part_has : (p : Property) (k : ℕ) (name : List ℕ) (d : Doc) → HasParts p k d → IfSome (entry_at name d) (p.Has (suc k))
part_has p k name d h = found_of_all (λ n. p.Has (suc k)) (entries_in d) name h.0

-- ---- the slots of a path item

-- what is asked of a slot
abbrev pub ItemHas : Property → ItemSlot → Doc → Type 0
ItemHas p base d = HasParts p 2 d
ItemHas p (operation m) d = p.Has 3 d
ItemHas p (additional name) d = HasUnder p 4 name d

item_has : (p : Property) (s : ItemSlot) (i : Doc) → p.Has 2 i → IfSome (item_slot s i) (ItemHas p s)
item_has p base i h = parts_have p 2 base_members i level_2 h
item_has p (operation m) i h = held_has p 3 _ (field_has p 2 (method_member m) i level_2 h)
item_has p (additional name) i h = entry_has p 3 name _ level_3 (field_has p 2 (codes "additionalOperations") i level_2 h)

-- what is asked of a slot of the item at a path
abbrev pub PathHas : Property → List ℕ → ItemSlot → Doc → Type 0
PathHas p path s d = ItemHas p s d × p.Names path

-- what an item has in a slot, where there is an item
pub slot_has : (p : Property) (path : List ℕ) (s : ItemSlot) (o : Option Doc) → IfSome o (p.Has 2) → IfSome o (λ i. p.Names path) → IfSome (option_and_then (item_slot s) o) (PathHas p path s)
slot_has p path s None h named = tt
slot_has p path s (Some i) h named = IfSome_then (item_slot s i) (item_has p s i h) (λ x g. (g, named))

-- ---- the slots of a document

-- No path is refused. It is asked of the documents beside the property, for what stands at `paths` need not be of its kind.
abbrev pub PathsNamed : Property → Doc → Type 0
PathsNamed p d = (path : List ℕ) → IfSome (entry_at path (paths_of d)) (λ i. p.Names path)

-- a property that refuses no name
pub all_named : (p : Property) → ((name : List ℕ) → p.Names name) → (d : Doc) → PathsNamed p d
all_named p each d path = if_any (λ i. each path) (entry_at path (paths_of d))

-- What is asked of the slots that merging takes a document apart into. Of what stands in no slot nothing is asked, as of an entry behind
-- another of its name.
pub record HasSlots (p : Property) (d : Doc) : Type 0 where
  pub fixed : HasParts p 0 (parts fixed_members d)
  pub items : (j : Joined) → AllByRecursion (p.Has 2) (items_in (joined_of j d))
  pub paths : (path : List ℕ) (s : ItemSlot) → IfSome (path_slot path s (paths_of d)) (PathHas p path s)
  pub path_extensions : (name : List ℕ) → IfSome (extension_at name (paths_of d)) (p.Extension 1 name)
  -- extensions of Paths that are there and empty
  pub empty_extensions : extensions_in (paths_of d) ≡ Some no_members → p.Extends 1 (Some no_members)
  pub components : (m : ComponentMap) (name : List ℕ) → IfSome (component_at m name (components_of d)) (HasUnder p 3 name)
  pub component_extensions : p.Extends 1 (extensions_in (components_of d))

-- a document has the property in its slots
pub slots_of : (p : Property) (d : Doc) → p.Has 0 d → PathsNamed p d → HasSlots p d
slots_of p d h named = record {
  fixed = parts_have p 0 fixed_members d level_0 h;
  items = λ j. items_have p 1 (joined_of j d) level_1 (field_has p 0 (joined_member j) d level_0 h);
  paths =
      λ path s. slot_has p path s (entry_at path (paths_of d)) (IfSome_then (entry_at path (paths_of d)) (entry_has p 1 path (paths_of d) level_1 paths_have) (λ i g. g.0)) (named path);
  path_extensions = λ name. extension_has p 1 name (paths_of d) (extensions_have p 1 (paths_of d) level_1 paths_have);
  empty_extensions = λ is. subst (p.Extends 1) is (extensions_have p 1 (paths_of d) level_1 paths_have);
  components = λ m name. entry_has p 2 name (field_at (map_member m) (components_of d)) level_2 (field_has p 1 (map_member m) (components_of d) level_1 components_have);
  component_extensions = extensions_have p 1 (components_of d) level_1 components_have;
}
  where
    paths_have : p.Has 1 (paths_of d)
    paths_have = field_has p 0 (codes "paths") d level_0 h

    components_have : p.Has 1 (components_of d)
    components_have = field_has p 0 (codes "components") d level_0 h
