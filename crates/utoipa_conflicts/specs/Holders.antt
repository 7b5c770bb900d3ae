-- The holders that a document has, one after the other, and that each name of an object stands once.
use Rattle.std.specs.Prelude.{◌≡◌, ℕ, List, [], ◌∷◌, ◌++◌, Bool, true, false, ◌&&◌, if◌then◌else◌, Option, None, Some, IfSome, codes}
use Rattle.std.specs.List.{list_any}
use Rattle.std.specs.Str.{bytes_eq}
use Rattle.serde_json.specs.Data.{Data, Members, no_members, member}
use Rattle.serde_json.specs.Find.{get, get_member}
use Rattle.utoipa_base.specs.EachMember.{each_member}
use Rattle.utoipa_check.specs.Places.{members_at}
use Rattle.utoipa_conflicts.specs.Conflicts.{Holder, document, component, path_entry, item_member, additional_operation}

-- ---- holders

-- the entries of a map of components
abbrev pub component_holders : List ℕ → Data → List Holder
component_holders kind d = each_member (λ name e. component kind name ∷ []) (members_at d)

-- the entries of `additionalOperations` of the item at a path
abbrev pub additional_holders : List ℕ → Data → List Holder
additional_holders path d = each_member (λ name e. additional_operation path name ∷ []) (members_at d)

-- those of a member of the item at a path
abbrev pub item_holders : List ℕ → List ℕ → Data → List Holder
item_holders path name d = item_member path name ∷ (if bytes_eq name (codes "additionalOperations") then additional_holders path d else [])

-- those of an entry of `paths`, also of an extension
abbrev pub path_holders : List ℕ → Data → List Holder
path_holders path d = path_entry path ∷ each_member (item_holders path) (members_at d)

-- those of each member of what stands under a name
abbrev pub holders_at : (List ℕ → Data → List Holder) → Option Data → List Holder
holders_at f None = []
holders_at f (Some d) = each_member f (members_at d)

abbrev pub holders : Data → List Holder
holders d = document ∷ holders_at component_holders (get (codes "components") d) ++ holders_at path_holders (get (codes "paths") d)

-- ---- the same holder

abbrev pub same_holder : Holder → Holder → Bool
same_holder document document = true
same_holder document h = false
same_holder (component kind name) (component k n) = bytes_eq kind k && bytes_eq name n
same_holder (component kind name) h = false
same_holder (path_entry path) (path_entry p) = bytes_eq path p
same_holder (path_entry path) h = false
same_holder (item_member path name) (item_member p n) = bytes_eq path p && bytes_eq name n
same_holder (item_member path name) h = false
same_holder (additional_operation path name) (additional_operation p n) = bytes_eq path p && bytes_eq name n
same_holder (additional_operation path name) h = false

-- whether a holder is one of these
abbrev pub is_among : Holder → List Holder → Bool
is_among h hs = list_any (same_holder h) hs

-- ---- names that stand once

-- no name stands twice
abbrev pub AreApart : Members → Type 0
AreApart no_members = Unit {0}
AreApart (member name d ms) = (get_member name ms ≡ None) × AreApart ms

-- a fact of each member
abbrev pub EachMember : (List ℕ → Data → Type 0) → Members → Type 0
EachMember P no_members = Unit {0}
EachMember P (member name d ms) = P name d × EachMember P ms

abbrev pub IsApart : List ℕ → Data → Type 0
IsApart name d = AreApart (members_at d)

-- in components and in each map of them
abbrev pub AreComponentsApart : Data → Type 0
AreComponentsApart d = AreApart (members_at d) × EachMember IsApart (members_at d)

-- in a member of an item that is looked into
abbrev pub IsMemberApart : List ℕ → Data → Type 0
IsMemberApart name d = bytes_eq name (codes "additionalOperations") ≡ true → AreApart (members_at d)

-- in the item at a path
abbrev pub IsItemApart : List ℕ → Data → Type 0
IsItemApart path d = AreApart (members_at d) × EachMember IsMemberApart (members_at d)

-- in `paths`
abbrev pub ArePathsApart : Data → Type 0
ArePathsApart d = AreApart (members_at d) × EachMember IsItemApart (members_at d)

-- in what is looked into of components and of `paths`
abbrev pub IsApartWithin : Data → Type 0
IsApartWithin d = IfSome (get (codes "components") d) AreComponentsApart × IfSome (get (codes "paths") d) ArePathsApart

-- in each object of a document that is looked into for slots
abbrev pub IsNamedOnce : Data → Type 0
IsNamedOnce d = AreApart (members_at d) × IsApartWithin d
