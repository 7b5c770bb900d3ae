-- A map of path items that takes those of another, front to back; and path items of many maps, one map after the other.
use Rattle.std.proofs.Common.{◌≡◌, ℕ, List, [], ◌∷◌, ◌++◌, length, Bool, true, false, cond, Option, Some, None, option_map, option_and_then, refl, sym, ap, ◌∙◌, String, BTreeMap, Global, string_bytes, string_cmp, arith}
use Rattle.std.specs.Option.{option_or}
use Rattle.std.specs.Str.{bytes_eq}
use Rattle.std.specs.List.Sorted.{IsStrictlySortedBy}
use Rattle.std.specs.Map.{keys_of}
use Rattle.std.specs.BTreeMap.{get_by_text}
use Rattle.std.proofs.lemmas.Cmp.{nat_list_eq_equiv}
use Rattle.utoipa_base.specs.Docs.{Doc}
use Rattle.utoipa_base.specs.Views.{map_of_docs}
use Rattle.utoipa_merging.specs.Slots.{ItemSlot, item_slot, path_slot}
use Rattle.utoipa_merging.specs.Merged.{AreItemsMerged}
use Rattle.utoipa_merging.proofs.Options.{or_none}
use Rattle.utoipa_merging.proofs.Composition.{first_composes}
use Rattle.utoipa_merging.proofs.MapViews.{entry_at-map}
use Rattle.utoipa_merging.proofs.Lookups.{found, found-cons, same_text, found_past}

-- a slot of the item that was found
abbrev pub slot_in : {X : Type 0} → (X → Doc) → ItemSlot → Option X → Option Doc
slot_in f s o = option_and_then (item_slot s) (option_map f o)

pub path_slot-map : {X : Type 0} (f : X → Doc) (m : BTreeMap (String Global) X) (path : List ℕ) (s : ItemSlot) → path_slot path s (map_of_docs f m) ≡ slot_in f s (get_by_text m path)
path_slot-map f m path s = ap (option_and_then (item_slot s)) (entry_at-map f m path)

-- by each slot of an item, what a map has, or else the entries still to come, is what the map had at first, or else all entries
abbrev pub MergedSoFar : {X : Type 0} → (X → Doc) → (all : List ℕ → ItemSlot → Option Doc) → (so_far : List ℕ → Option X) → List (String Global × X) → Type 0
MergedSoFar f all so_far rest = (q : List ℕ) (s : ItemSlot) → option_or (slot_in f s (so_far q)) (slot_in f s (found rest q)) ≡ all q s

-- the item at the first entry's path was merged with that entry, or the entry was put
pub merged_step : {X : Type 0} (f : X → Doc) (all : List ℕ → ItemSlot → Option Doc) (so_far next : List ℕ → Option X) (e : String Global × X) (rest later : List (String Global × X)) (new : X) → MergedSoFar f all so_far rest → rest ≡ e ∷ later
    → IsStrictlySortedBy string_cmp (keys_of rest) → ((s : ItemSlot) → item_slot s (f new) ≡ option_or (slot_in f s (so_far (string_bytes e.0))) (item_slot s (f e.1)))
    → ((q : List ℕ) → next q ≡ cond (bytes_eq (string_bytes e.0) q) (Some new) (so_far q)) → MergedSoFar f all next later
merged_step {X} f all so_far next e rest later new before is sorted merged updated q s = split ∙ before q s
  where
    name : List ℕ
    name = string_bytes e.0

    none : found later name ≡ None
    none = found_past e later (rw is at sorted)

    step : (b : Bool) → bytes_eq q name ≡ b → option_or (slot_in f s (cond b (Some new) (so_far q))) (slot_in f s (found later q)) ≡ option_or (slot_in f s (so_far q)) (slot_in f s (cond b (Some e.1) (found later q)))
    step true same =
        let here : q ≡ name = same_text q name same in
        ap (λ o. option_or (item_slot s (f new)) (slot_in f s o)) (ap (found later) here ∙ none)
        ∙ or_none (item_slot s (f new))
        ∙ merged s
        ∙ ap (λ t. option_or (slot_in f s (so_far t)) (item_slot s (f e.1))) (sym here)
    step false same = refl

    split : option_or (slot_in f s (next q)) (slot_in f s (found later q)) ≡ option_or (slot_in f s (so_far q)) (slot_in f s (found rest q))
    split =
        ap (λ o. option_or (slot_in f s o) (slot_in f s (found later q))) (updated q ∙ ap (λ b. cond b (Some new) (so_far q)) (nat_list_eq_equiv.symm name q))
        ∙ step (bytes_eq q name) refl
        ∙ ap (λ o. option_or (slot_in f s (so_far q)) (slot_in f s o)) (sym (ap (λ l. found l q) is ∙ found-cons q e later))

-- no entry is still to come
pub merged_all : {X : Type 0} (f : X → Doc) (old later n : BTreeMap (String Global) X) (rest : List (String Global × X))
    → MergedSoFar f (λ q s. option_or (slot_in f s (get_by_text old q)) (slot_in f s (get_by_text later q))) (get_by_text n) rest → rest ≡ [] → AreItemsMerged (map_of_docs f old ∷ map_of_docs f later ∷ []) (map_of_docs f n)
merged_all f old later n rest before is path s =
    path_slot-map f n path s
    ∙ sym (ap (λ l. option_or (slot_in f s (get_by_text n path)) (slot_in f s (found l path))) is ∙ or_none (slot_in f s (get_by_text n path)))
    ∙ before path s
    ∙ ap (λ o. option_or o (slot_in f s (get_by_text later path))) (sym (path_slot-map f old path s))
    ∙ ap (option_or (path_slot path s (map_of_docs f old))) (sym (path_slot-map f later path s) ∙ sym (or_none (path_slot path s (map_of_docs f later))))

-- of no maps the items are none
pub items_none : {X : Type 0} (f : X → Doc) (m : BTreeMap (String Global) X) → m.entries ≡ [] → AreItemsMerged [] (map_of_docs f m)
items_none f m is path s = path_slot-map f m path s ∙ ap (λ es. slot_in f s (found es path)) is

-- those of one more map
pub items_more : (all : List Doc) (so_far next more : Doc) → AreItemsMerged all so_far → AreItemsMerged (so_far ∷ next ∷ []) more → AreItemsMerged (all ++ next ∷ []) more
items_more all so_far next more h g path s = first_composes (path_slot path s) all (next ∷ []) so_far next more (h path s) (sym (or_none (path_slot path s next))) (g path s)

-- an iterator of n maps, none of which is left
pub none_left : {X : Type 0} (xs : List X) (n : ℕ) → n ≡ length xs → n ≡ 0 → xs ≡ []
none_left [] n is none = refl
none_left (x ∷ xs) n is none = absurd (omega arith)
