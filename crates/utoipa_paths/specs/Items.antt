-- Path items that are put at their paths, where others may stand.
use Rattle.std.specs.Prelude.{◌≡◌, ℕ, List, [], ◌∷◌, Option, None, Some, if◌then◌else◌, IfSome, String, string_cmp, codes}
use Rattle.std.specs.Str.{bytes_eq}
use Rattle.std.specs.BTreeMap.{BTreeMap, get_by_text, IsOrdered}
use Rattle.std.specs.declared.alloc.Global.{Global}
use Rattle.utoipa_base.specs.Docs.{Doc}
use Rattle.utoipa_base.specs.Views.{map_of_docs}
use Rattle.utoipa_leaf.specs.declared.path.HttpMethod.{HttpMethod}
use Rattle.utoipa_merging.specs.Merged.{IsItemMerged, IsInOrder}
use Rattle.utoipa_merging.specs.Slots.{field_at}
use Rattle.utoipa_path.specs.Builders.{PathItemFields}
use Rattle.utoipa_path.specs.Docs.{path_item_doc}
use Rattle.utoipa_path.specs.Methods.{IsEmptyPathItem, HoldAtMethods}
use Rattle.utoipa_path.specs.declared.types.PathItem.{PathItem, out-PathItem}

-- path items by their paths
abbrev pub ItemsByPath : Type 0
ItemsByPath = BTreeMap (String Global) PathItem

-- the item has one such operation under each of the methods, and nothing else is said of it
abbrev pub IsItemOf : (methods : List HttpMethod) → (Doc → Type 0) → PathItem → Type 0
IsItemOf methods IsSuch item = (operation : Doc) × (empty : PathItemFields) × IsSuch operation × IsEmptyPathItem empty × HoldAtMethods methods operation empty (out-PathItem item)

-- what stands once an item is put: the item itself where none stood, and else the standing one with the operations that it lacked
abbrev pub IsMergedWith : (standing : Option PathItem) (item now : PathItem) → Type 0
IsMergedWith None item now = now ≡ item
IsMergedWith (Some standing) item now = IsItemMerged (path_item_doc standing ∷ path_item_doc item ∷ []) (path_item_doc now)

-- an item was put at this path, and at all others stands what stood there
pub record IsItemPut (path : List ℕ) (item : PathItem) (old new : ItemsByPath) : Type 0 where
  pub now : PathItem
  pub merged : IsMergedWith (get_by_text old path) item now
  pub items : (q : List ℕ) → get_by_text new q ≡ if bytes_eq path q then Some now else get_by_text old q

-- for a private clause: a value was put under a name, and under all others stands what stood there
pub record IsPutUnder {T : Type 0} (name : List ℕ) (value : T) (old new : BTreeMap (String Global) T) : Type 0 where
  pub values : (q : List ℕ) → get_by_text new q ≡ if bytes_eq name q then Some value else get_by_text old q
  pub ordered : IsOrdered string_cmp new

-- what stands at a path once the item was put that another map has there, if it has one
abbrev pub IsMergedOver : (standing item now : Option PathItem) → Type 0
IsMergedOver standing None now = now ≡ None
IsMergedOver standing (Some item) now = (n : PathItem) × (now ≡ Some n) × IsMergedWith standing item n

-- the merged items are those that stand at the paths of `later` once all of it is put
abbrev pub AreMergedOver : (standing later merged : ItemsByPath) → Type 0
AreMergedOver standing later merged = (path : List ℕ) → IsMergedOver (get_by_text standing path) (get_by_text later path) (get_by_text merged path)

-- ---- the order of names

-- the names of the additional operations ascend
abbrev pub IsItemInOrder : PathItem → Type 0
IsItemInOrder item = IsInOrder (field_at (codes "additionalOperations") (path_item_doc item))

abbrev pub IsInOrderIfAny : Option PathItem → Type 0
IsInOrderIfAny item = IfSome item IsItemInOrder

-- the paths ascend, and each item is in order
pub record AreItemsInOrder (items : ItemsByPath) : Type 0 where
  pub paths : IsInOrder (map_of_docs path_item_doc items)
  pub operations : (path : List ℕ) → IsInOrderIfAny (get_by_text items path)
