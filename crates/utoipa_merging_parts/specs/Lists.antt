-- Lists that are joined, and their entries by the texts that these are written as.
use Rattle.std.specs.Prelude.{◌≡◌, ◌≤◌, ◌+◌, ◌++◌, ◌||◌, ℕ, List, [], Option, None, Some, All, IsSome, map, Vec, vec_len, vec_capacity}
use Rattle.std.specs.BTreeMap.{BTreeMap, get_by}
use Rattle.std.specs.Cmp.Lexicographic.{slice_cmp}
use Rattle.std.specs.Option.{is_some}
use Rattle.std.specs.Ordering.{nat_cmp}
use Rattle.std.specs.declared.alloc.Global.{Global}
use Rattle.serde_json.specs.Written.{compact_text}
use Rattle.utoipa_base.specs.Docs.{Doc}
use Rattle.utoipa_base.specs.WellFormed.{IsPlain}
use Rattle.utoipa_base.specs.Writing.{write}
use Rattle.utoipa_merging.specs.Rules.{AreNew}
use Rattle.utoipa_merging_parts.specs.declared.lists.Written.{Written}
use Rattle.utoipa_merging_parts.specs.declared.lists.Joined.{Joined}

-- no item holds a fraction
abbrev pub ArePlain : {X : Type 0} → (X → Doc) → List X → Type 0
ArePlain f xs = All (λ x. IsPlain (f x)) xs

-- the items of a list that may be absent
abbrev pub items_if_any : {X : Type 0} → Option (Vec X Global) → List X
items_if_any None = []
items_if_any (Some v) = v.items

-- ---- room in a list

-- the list has room for the new entries
abbrev pub HasRoomFor : {X : Type 0} → (own new : Option (Vec X Global)) → Type 0
HasRoomFor None new = Unit {0}
HasRoomFor (Some v) None = Unit {0}
HasRoomFor (Some v) (Some n) = vec_len v + vec_len n ≤ vec_capacity v

-- the list has the new entries behind its own, and is there where any is
abbrev pub IsTaken : {X : Type 0} → (own new taken : Option (Vec X Global)) → Type 0
IsTaken own new taken = (is_some taken ≡ (is_some own || is_some new)) × (items_if_any taken ≡ items_if_any own ++ items_if_any new)

-- ---- for private clauses: entries by their texts

-- the text of the tree that the document is written as
abbrev pub text_of : Doc → List ℕ
text_of d = compact_text (write d)

-- a place in a list, by a text
abbrev pub PlacesByText : Type 0
PlacesByText = BTreeMap (Vec ℕ Global) ℕ

-- the place of an entry of this text
abbrev pub place_of : List ℕ → PlacesByText → Option ℕ
place_of text places = get_by (λ k. slice_cmp nat_cmp text k.items) places

-- a place is known for the text of each document
abbrev pub AreKnown : PlacesByText → List Doc → Type 0
AreKnown places ds = All (λ d. IsSome (place_of (text_of d) places)) ds

-- the entry holds no fraction, and the text is its own
abbrev pub IsWritten : {X : Type 0} → (X → Doc) → Written X → Type 0
IsWritten f w = IsPlain (f w.entry) × (w.text.items ≡ text_of (f w.entry))

-- the entry as a document
abbrev pub entry_doc : {X : Type 0} → (X → Doc) → Written X → Doc
entry_doc f w = f w.entry

-- no entry holds a fraction, and of each the place is known
abbrev pub IsSound : {X : Type 0} → (X → Doc) → Joined X → Type 0
IsSound f j = ArePlain f j.entries.items × AreKnown j.places (map f j.entries.items)

-- the documents of the entries so far
abbrev pub joined_docs : {X : Type 0} → (X → Doc) → Option (Joined X) → List Doc
joined_docs f None = []
joined_docs f (Some j) = map f j.entries.items

-- behind the entries so far stand those of the list that equal none of them
abbrev pub IsJoinedWith : {X : Type 0} → (X → Doc) → (joined : Option (Joined X)) (list : Option (Vec X Global)) (all : Option (Joined X)) → Type 0
IsJoinedWith f joined list all =
    (new : List Doc) × AreNew (joined_docs f joined) (map f (items_if_any list)) new × (joined_docs f all ≡ joined_docs f joined ++ new)
    × (is_some all ≡ (is_some joined || is_some list))
