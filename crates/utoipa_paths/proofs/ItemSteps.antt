-- Path items that are put at their paths, one after the other.
use Rattle.std.proofs.Common.{◌≡◌, ℕ, List, [], ◌∷◌, Bool, true, false, cond, Option, Some, None, Result, Ok, Err, OnOk, OnErr, refl, sym, ap, ◌∙◌, subst, String, Global, string_bytes, string_cmp}
use Rattle.std.specs.Option.{option_or}
use Rattle.std.specs.Str.{bytes_eq}
use Rattle.std.specs.List.{AllByRecursion}
use Rattle.std.specs.List.Sorted.{IsStrictlySortedBy}
use Rattle.std.specs.Map.{keys_of}
use Rattle.std.specs.BTreeMap.{get_by_text, IsOrdered}
use Rattle.std.proofs.lemmas.Cmp.{nat_list_eq_equiv}
use Rattle.std.proofs.lemmas.Map.Keys.{sorted_tail}
use Rattle.std.proofs.lemmas.Slice.Eq.{bytes_eq-Decides}
use Rattle.utoipa_base.specs.Fill.{Pairs, put_each}
use Rattle.utoipa_base.specs.Views.{map_of_docs}
use Rattle.utoipa_merging.specs.Merged.{AreItemsMerged}
use Rattle.utoipa_merging.specs.Slots.{ItemSlot, item_slot, path_slot}
use Rattle.utoipa_merging.proofs.Options.{or_none}
use Rattle.utoipa_merging.proofs.ItemWalks.{slot_in, path_slot-map}
use Rattle.utoipa_merging.proofs.Lookups.{found, found-cons, same_text, found_past}
use Rattle.utoipa_merging.proofs.PutEach.{found-put_each, sorted-put_each}
use Rattle.utoipa_merging.proofs.MapViews.{in_order-map, ordered-map}
use Rattle.utoipa_path.specs.Docs.{path_item_doc}
use Rattle.utoipa_path.specs.declared.types.PathItem.{PathItem}
use Rattle.utoipa_paths.specs.Items.{ItemsByPath, IsMergedWith, IsMergedOver, IsPutUnder, AreMergedOver, IsItemInOrder, IsInOrderIfAny, AreItemsInOrder}

-- ---- one item

-- each slot of the item that stands now is that of the standing one, or else that of the one that was put
pub slots_merged : (standing : Option PathItem) (item now : PathItem) → IsMergedWith standing item now
    → (s : ItemSlot) → item_slot s (path_item_doc now) ≡ option_or (slot_in path_item_doc s standing) (item_slot s (path_item_doc item))
slots_merged None item now h s = ap (λ i. item_slot s (path_item_doc i)) h
slots_merged (Some standing) item now h s = h s ∙ ap (option_or (item_slot s (path_item_doc standing))) (or_none (item_slot s (path_item_doc item)))

-- ---- items that are put over others, and stand for themselves until then

-- what is said of the items at a path, where none is still to come; and where one is, it is the one of `later`
abbrev pub IsPassed : (coming later : Option PathItem) → Type 0 → Type 0
IsPassed None later over = over
IsPassed (Some item) later over = later ≡ Some item

-- the items that were merged, but for those still to come
abbrev pub MergedOverSoFar : (standing later merged : List ℕ → Option PathItem) → Pairs PathItem → Type 0
MergedOverSoFar standing later merged coming = (q : List ℕ) → IsPassed (found coming q) (later q) (IsMergedOver (standing q) (later q) (merged q))

over_none : (o standing : Option PathItem) → IsPassed o o (IsMergedOver standing o None)
over_none None standing = refl
over_none (Some item) standing = refl

-- none was merged yet
pub over_first : (standing : List ℕ → Option PathItem) (later merged : ItemsByPath) (coming : Pairs PathItem) → merged.entries ≡ [] → coming ≡ later.entries → MergedOverSoFar standing (get_by_text later) (get_by_text merged) coming
over_first standing later merged coming empty all q =
    subst (λ es. IsPassed (found es q) (get_by_text later q) (IsMergedOver (standing q) (get_by_text later q) (get_by_text merged q))) (sym all)
    (subst (λ es. IsPassed (get_by_text later q) (get_by_text later q) (IsMergedOver (standing q) (get_by_text later q) (found es q))) (sym empty) (over_none (get_by_text later q) (standing q)))

-- one more was merged
pub over_step : (standing later merged next : List ℕ → Option PathItem) (e : String Global × PathItem) (coming rest : Pairs PathItem) (now : PathItem) → MergedOverSoFar standing later merged coming → coming ≡ e ∷ rest → IsStrictlySortedBy string_cmp (keys_of coming)
    → IsMergedWith (standing (string_bytes e.0)) e.1 now → ((q : List ℕ) → next q ≡ cond (bytes_eq (string_bytes e.0) q) (Some now) (merged q)) → MergedOverSoFar standing later next rest
over_step standing later merged next e coming rest now before is sorted put updated q = step (bytes_eq q name) refl (subst (λ o. IsPassed o (later q) (IsMergedOver (standing q) (later q) (merged q))) head (before q))
  where
    name : List ℕ
    name = string_bytes e.0

    head : found coming q ≡ cond (bytes_eq q name) (Some e.1) (found rest q)
    head = ap (λ es. found es q) is ∙ found-cons q e rest

    next_is : next q ≡ cond (bytes_eq q name) (Some now) (merged q)
    next_is = updated q ∙ ap (λ b. cond b (Some now) (merged q)) (nat_list_eq_equiv.symm name q)

    past : found rest name ≡ None
    past = found_past e rest (rw is at sorted)

    step : (b : Bool) → bytes_eq q name ≡ b → IsPassed (cond (bytes_eq q name) (Some e.1) (found rest q)) (later q) (IsMergedOver (standing q) (later q) (merged q))
        → IsPassed (found rest q) (later q) (IsMergedOver (standing q) (later q) (next q))
    step true same h =
        let here : q ≡ name = same_text q name same in
        let given : later q ≡ Some e.1 = subst (λ b. IsPassed (cond b (Some e.1) (found rest q)) (later q) (IsMergedOver (standing q) (later q) (merged q))) same h in
        let now_is : next q ≡ Some now = next_is ∙ ap (λ b. cond b (Some now) (merged q)) same in
        subst (λ o. IsPassed o (later q) (IsMergedOver (standing q) (later q) (next q))) (sym (ap (found rest) here ∙ past))
        (subst (λ l. IsMergedOver (standing q) l (next q)) (sym given) (now, now_is, subst (λ p. IsMergedWith (standing p) e.1 now) (sym here) put))
    step false same h =
        subst (λ o. IsPassed (found rest q) (later q) (IsMergedOver (standing q) (later q) o)) (sym (next_is ∙ ap (λ b. cond b (Some now) (merged q)) same))
        (subst (λ b. IsPassed (cond b (Some e.1) (found rest q)) (later q) (IsMergedOver (standing q) (later q) (merged q))) same h)

-- all were merged
pub over_all : (standing later merged : ItemsByPath) (coming : Pairs PathItem) → MergedOverSoFar (get_by_text standing) (get_by_text later) (get_by_text merged) coming → coming ≡ [] → AreMergedOver standing later merged
over_all standing later merged coming before is q = subst (λ es. IsPassed (found es q) (get_by_text later q) (IsMergedOver (get_by_text standing q) (get_by_text later q) (get_by_text merged q))) is (before q)

slot_over : (standing item now : Option PathItem) (s : ItemSlot) → IsMergedOver standing item now → slot_in path_item_doc s (option_or now standing) ≡ option_or (slot_in path_item_doc s standing) (option_or (slot_in path_item_doc s item) None)
slot_over standing None now s h = ap (λ o. slot_in path_item_doc s (option_or o standing)) h ∙ sym (or_none (slot_in path_item_doc s standing))
slot_over standing (Some item) now s h =
    ap (λ o. slot_in path_item_doc s (option_or o standing)) h.1
    ∙ slots_merged standing item h.0 h.2 s
    ∙ ap (option_or (slot_in path_item_doc s standing)) (sym (or_none (item_slot s (path_item_doc item))))

-- the merged items were put over those that stood
pub over_merged : (standing later merged new : ItemsByPath) → AreMergedOver standing later merged → ((q : List ℕ) → get_by_text new q ≡ option_or (get_by_text merged q) (get_by_text standing q))
    → AreItemsMerged (map_of_docs path_item_doc standing ∷ map_of_docs path_item_doc later ∷ []) (map_of_docs path_item_doc new)
over_merged standing later merged new over put path s =
    path_slot-map path_item_doc new path s
    ∙ ap (slot_in path_item_doc s) (put path)
    ∙ slot_over (get_by_text standing path) (get_by_text later path) (get_by_text merged path) s (over path)
    ∙ ap (λ o. option_or o (option_or (slot_in path_item_doc s (get_by_text later path)) None)) (sym (path_slot-map path_item_doc standing path s))
    ∙ ap (λ o. option_or (path_slot path s (map_of_docs path_item_doc standing)) (option_or o None)) (sym (path_slot-map path_item_doc later path s))

-- ---- the order of names

-- each item that is still to come is in order
abbrev pub AreComingInOrder : Pairs PathItem → Type 0
AreComingInOrder = AllByRecursion (λ e. IsItemInOrder e.1)

rest_in_order : (e : String Global × PathItem) (es : Pairs PathItem) → IsStrictlySortedBy string_cmp (keys_of (e ∷ es)) → ((q : List ℕ) → IsInOrderIfAny (found (e ∷ es) q)) → (q : List ℕ) → IsInOrderIfAny (found es q)
rest_in_order e es sorted each q = step (bytes_eq q (string_bytes e.0)) refl (subst IsInOrderIfAny (found-cons q e es) (each q))
  where
    step : (b : Bool) → bytes_eq q (string_bytes e.0) ≡ b → IsInOrderIfAny (cond (bytes_eq q (string_bytes e.0)) (Some e.1) (found es q)) → IsInOrderIfAny (found es q)
    step true same h = subst IsInOrderIfAny (sym (ap (found es) (same_text q (string_bytes e.0) same) ∙ found_past e es sorted)) tt
    step false same h = subst (λ b. IsInOrderIfAny (cond b (Some e.1) (found es q))) same h

-- the items that a map gives in turn
pub coming_in_order : (es : Pairs PathItem) → IsStrictlySortedBy string_cmp (keys_of es) → ((q : List ℕ) → IsInOrderIfAny (found es q)) → AreComingInOrder es
coming_in_order [] sorted each = tt
coming_in_order (e ∷ es) sorted each = (
  subst IsInOrderIfAny (found-cons (string_bytes e.0) e es ∙ ap (λ b. cond b (Some e.1) (found es (string_bytes e.0))) ((bytes_eq-Decides (string_bytes e.0) (string_bytes e.0)).1 refl)) (each (string_bytes e.0)),
  coming_in_order es (sorted_tail string_cmp e.0 (keys_of es) sorted) (rest_in_order e es sorted each),
)

-- of no items all are in order
pub none_in_order : (m : ItemsByPath) → m.entries ≡ [] → AreItemsInOrder m
unfolding IsStrictlySortedBy
none_in_order m empty =
    record {
      paths = in_order-map path_item_doc m (subst (λ es. IsStrictlySortedBy string_cmp (keys_of es)) (sym empty) tt);
      operations = λ q. subst (λ es. IsInOrderIfAny (found es q)) (sym empty) tt;
    }

-- one item was put, or replaced
pub put_in_order : (old new : ItemsByPath) (path : List ℕ) (now : PathItem) → AreItemsInOrder old → IsOrdered string_cmp new → IsItemInOrder now → ((q : List ℕ) → get_by_text new q ≡ cond (bytes_eq path q) (Some now) (get_by_text old q)) → AreItemsInOrder new
put_in_order old new path now before ordered here items =
    record {
      paths = in_order-map path_item_doc new ordered;
      operations = λ q. subst IsInOrderIfAny (sym (items q)) (either (get_by_text old q) (bytes_eq path q) (before.operations q));
    }
  where
    either : (o : Option PathItem) (b : Bool) → IsInOrderIfAny o → IsInOrderIfAny (cond b (Some now) o)
    either o true h = here
    either o false h = h

either_in_order : (o p : Option PathItem) → IsInOrderIfAny o → IsInOrderIfAny p → IsInOrderIfAny (option_or o p)
either_in_order None p h k = k
either_in_order (Some i) p h k = h

over_in_order : (standing merged new : ItemsByPath) → AreItemsInOrder standing → AreItemsInOrder merged → IsOrdered string_cmp new → ((q : List ℕ) → get_by_text new q ≡ option_or (get_by_text merged q) (get_by_text standing q)) → AreItemsInOrder new
over_in_order standing merged new before over ordered put =
    record {
      paths = in_order-map path_item_doc new ordered;
      operations = λ q. subst IsInOrderIfAny (sym (put q)) (either_in_order (get_by_text merged q) (get_by_text standing q) (over.operations q) (before.operations q));
    }

-- the paths of items in order ascend
paths_ordered : (m : ItemsByPath) → AreItemsInOrder m → IsOrdered string_cmp m
paths_ordered m h = ordered-map path_item_doc m h.paths

same_in_order : (m n : ItemsByPath) → n.entries ≡ m.entries → AreItemsInOrder m → AreItemsInOrder n
same_in_order m n same h =
    record {
      paths = in_order-map path_item_doc n (subst (λ es. IsStrictlySortedBy string_cmp (keys_of es)) (sym same) (paths_ordered m h));
      operations = λ q. subst (λ es. IsInOrderIfAny (found es q)) (sym same) (h.operations q);
    }

-- all items were put over others, or none of them
pub all_or_none_in_order : {T E : Type 0} (r : Result T E) (standing merged new : ItemsByPath) → AreItemsInOrder standing → AreItemsInOrder merged → OnOk r (new.entries ≡ put_each merged.entries standing.entries) → OnErr r (new.entries ≡ standing.entries) → AreItemsInOrder new
all_or_none_in_order (Ok v) standing merged new before over ok err =
    over_in_order standing merged new before over
    (subst (λ es. IsStrictlySortedBy string_cmp (keys_of es)) (sym ok) (sorted-put_each merged.entries standing.entries (paths_ordered standing before)))
    (λ q. ap (λ es. found es q) ok ∙ found-put_each merged.entries standing.entries (paths_ordered merged over) q)
all_or_none_in_order (Err e) standing merged new before over ok err = same_in_order standing new err before

-- one item was put under a path, or none
pub put_or_kept_in_order : {T E : Type 0} (r : Result T E) (old new : ItemsByPath) (path : List ℕ) (item : PathItem) → AreItemsInOrder old → IsItemInOrder item → OnOk r (IsPutUnder path item old new) → OnErr r (new.entries ≡ old.entries) → AreItemsInOrder new
put_or_kept_in_order (Ok v) old new path item before here ok err = put_in_order old new path item before ok.ordered here ok.values
put_or_kept_in_order (Err e) old new path item before here ok err = same_in_order old new err before
