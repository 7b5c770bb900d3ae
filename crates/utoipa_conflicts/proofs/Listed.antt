-- The list of conflicts has those that are dropped, and no others.
use Rattle.std.proofs.Common.{◌≡◌, ◌⊎◌, ◌↔◌, inl, inr, ℕ, zero, suc, ◌+◌, List, [], ◌∷◌, ◌++◌, ◌==◌, ◌||◌, Bool, true, false, if◌then◌else◌, Option, None, Some, refl, sym, ap, subst, ◌∙◌, arith, true≢false, eqb-true, eq-eqb}
use Rattle.std.proofs.lemmas.Option.{none-some, same_Some}
use Rattle.std.specs.List.{slice_get, flat_map}
use Rattle.serde_json.specs.Data.{Data}
use Rattle.utoipa_conflicts.specs.Conflicts.{Slot, Numbered, numbered, Filled, slots, place, holder, rule, deciding, Conflict, dropped_by, conflicts_of, conflicts}
use Rattle.utoipa_conflicts.specs.IsConflict.{IsOneOf, Decides, IsConflict, AllKept}
use Rattle.utoipa_conflicts.specs.Same.{is_value}
use Rattle.utoipa_conflicts.specs.Trees.{Place, at_place}
use Rattle.utoipa_conflicts.proofs.WhichDecides.{decides, is_found}

-- ---- lists

pub in_first : {A : Type 0} (x : A) (xs ys : List A) → IsOneOf x xs → IsOneOf x (xs ++ ys)
in_first x [] ys h = absurd h
in_first x (y ∷ xs) ys (inl h) = inl h
in_first x (y ∷ xs) ys (inr h) = inr (in_first x xs ys h)

pub in_second : {A : Type 0} (x : A) (xs ys : List A) → IsOneOf x ys → IsOneOf x (xs ++ ys)
in_second x [] ys h = h
in_second x (y ∷ xs) ys h = inr (in_second x xs ys h)

pub in_either : {A : Type 0} (x : A) (xs ys : List A) → IsOneOf x (xs ++ ys) → IsOneOf x xs ⊎ IsOneOf x ys
in_either x [] ys h = inr h
in_either x (y ∷ xs) ys (inl h) = inl (inl h)
in_either x (y ∷ xs) ys (inr h) = elim (in_either x xs ys h) [ inl g ↦ inl (inr g) | inr g ↦ inr g ]

-- what one of the elements gives
pub in_each : {A B : Type 0} (f : A → List B) (x : A) (xs : List A) (y : B) → IsOneOf x xs → IsOneOf y (f x) → IsOneOf y (flat_map f xs)
in_each f x [] y h g = absurd h
in_each f x (z ∷ xs) y (inl h) g = in_first y (f z) (flat_map f xs) (subst (λ w. IsOneOf y (f w)) h g)
in_each f x (z ∷ xs) y (inr h) g = in_second y (f z) (flat_map f xs) (in_each f x xs y h g)

pub from_each : {A B : Type 0} (f : A → List B) (xs : List A) (y : B) → IsOneOf y (flat_map f xs) → (x : A) × IsOneOf x xs × IsOneOf y (f x)
from_each f [] y h = absurd h
from_each f (z ∷ xs) y h =
    elim (in_either y (f z) (flat_map f xs) h) [
      | inl g ↦ (z, inl refl, g)
      | inr g ↦ let more = from_each f xs y g in (more.0, inr more.1, more.2)
    ]

-- ---- numbered documents

numbered_at : (n : ℕ) (ds : List Data) (k : ℕ) (d : Data) → slice_get ds k ≡ Some d → IsOneOf (n + k, d) (numbered n ds)
numbered_at n [] k d at = absurd (none-some d at)
numbered_at n (e ∷ ds) zero d at =
    let number : n + zero ≡ n = omega arith in
    inl (ap (λ m. (m, d)) number ∙ ap (λ x. (n, x)) (sym (same_Some e d at)))
numbered_at n (e ∷ ds) (suc k) d at =
    let number : suc n + k ≡ n + suc k = omega arith in
    inr (subst (λ m. IsOneOf (m, d) (numbered (suc n) ds)) number (numbered_at (suc n) ds k d at))

at_number : (n : ℕ) (ds : List Data) (t : Numbered) → IsOneOf t (numbered n ds) → (k : ℕ) × (t.0 ≡ n + k) × (slice_get ds k ≡ Some t.1)
at_number n [] t h = absurd h
at_number n (d ∷ ds) t (inl h) =
    let number : t.0 ≡ n = ap (λ u. u.0) h in
    (zero, omega (arith, number), ap (λ u. Some u.1) (sym h))
at_number n (d ∷ ds) t (inr h) = let more = at_number (suc n) ds t h in (suc more.0, omega (arith, more.1), more.2)

-- ---- one slot

-- one is dropped where another document decides and has another value
pub is_dropped : (b c : Bool) (p : Place) (i j : ℕ) → b ≡ false → c ≡ false → IsOneOf {A = Conflict} (p, i, j) (if b || c then [] else (p, i, j) ∷ [])
is_dropped false false p i j e f = inl refl
is_dropped false true p i j e f = absurd (true≢false f)
is_dropped true c p i j e f = absurd (true≢false e)

was_dropped : (b c : Bool) (x y : Conflict) → IsOneOf x (if b || c then [] else y ∷ []) → (b ≡ false) × (c ≡ false) × (x ≡ y)
was_dropped false false x y (inl h) = (refl, refl, h)
was_dropped false false x y (inr h) = absurd h
was_dropped false true x y h = absurd h
was_dropped true c x y h = absurd h

pub by_test : (b : Bool) → (b ≡ true → ⊥) → b ≡ false
by_test true h = absurd (h refl)
by_test false h = refl

apart : (i j : ℕ) → (i ≡ j → ⊥) → (i == j) ≡ false
apart i j h = by_test (i == j) (λ e. h (eqb-true i j e))

apart_back : (i j : ℕ) → (i == j) ≡ false → i ≡ j → ⊥
apart_back i j e same = true≢false (sym (eq-eqb i j same) ∙ e)

-- the document that decides, if one is dropped
pub decided : (j : ℕ) (s : Filled) (o : Option Numbered) (x : Conflict) → IsOneOf x (dropped_by j s o)
    → (t : Numbered) × (o ≡ Some t) × (t.0 ≡ j → ⊥) × (is_value s.1 (at_place (place s.0) t.1) ≡ false) × (x ≡ (place s.0, t.0, j))
decided j s None x h = absurd h
decided j s (Some t) x h =
    let w = was_dropped (t.0 == j) (is_value s.1 (at_place (place s.0) t.1)) x (place s.0, t.0, j) h in
    (t, refl, apart_back t.0 j w.0, w.1, w.2)

-- ---- all

listed_is_dropped : (ds : List Data) (p : Place) (i j : ℕ) → IsOneOf (p, i, j) (conflicts ds) → IsConflict ds p i j
listed_is_dropped ds p i j h =
    let all = numbered 0 ds in
    let doc = from_each (conflicts_of all) all (p, i, j) h in
    let slot = from_each (λ s. dropped_by doc.0.0 s (deciding (holder s.0) all)) (slots doc.0.1) (p, i, j) doc.2 in
    let by = decided doc.0.0 slot.0 (deciding (holder slot.0.0) all) (p, i, j) slot.2 in
    let number = at_number 0 ds doc.0 doc.1 in
    let same_j : doc.0.0 ≡ j = ap (λ x. x.2) (sym by.4) in
    let same_i : by.0.0 ≡ i = ap (λ x. x.1) (sym by.4) in
    let place_is : p ≡ place slot.0.0 = ap (λ x. x.0) by.4 in
    let found = decides (rule (holder slot.0.0)) (holder slot.0.0) ds by.0 by.1 in
    let own : number.0 ≡ j = omega (arith, number.1, same_j) in (
      slot.0.0,
      slot.0.1,
      place_is,
      (doc.0.1, subst (λ k. slice_get ds k ≡ Some doc.0.1) own number.2, slot.1),
      subst (λ k. Decides slot.0.0 ds k) same_i found.0,
      (λ e. by.2 (same_i ∙ e ∙ sym same_j)),
      (by.0.1, subst (λ k. slice_get ds k ≡ Some by.0.1) same_i found.1, by.3),
    )

pub dropped_is_listed : (ds : List Data) (p : Place) (i j : ℕ) → IsConflict ds p i j → IsOneOf (p, i, j) (conflicts ds)
dropped_is_listed ds p i j c =
    let all = numbered 0 ds in
    let s : Slot = c.0 in
    let v : Data = c.1 in
    let own = c.3 in
    let other = c.6 in
    let number : 0 + j ≡ j = omega arith in
    let found = is_found (rule (holder s)) (holder s) ds i other.0 c.4 other.1 in
    let here : IsOneOf (place s, i, j) (dropped_by j (s, v) (Some (i, other.0))) = is_dropped (i == j) (is_value v (at_place (place s) other.0)) (place s) i j (apart i j c.5) other.2 in
    let of_slot : IsOneOf (p, i, j) (dropped_by j (s, v) (deciding (holder s) all)) =
    subst (λ o. IsOneOf (p, i, j) (dropped_by j (s, v) o)) (sym found) (subst (λ q. IsOneOf (q, i, j) (dropped_by j (s, v) (Some (i, other.0)))) (sym c.2) here)
    in
    let of_doc : IsOneOf (p, i, j) (conflicts_of all (j, own.0)) = in_each (λ f. dropped_by j f (deciding (holder f.0) all)) (s, v) (slots own.0) (p, i, j) own.2 of_slot in
    let stands : IsOneOf (j, own.0) all = subst (λ m. IsOneOf (m, own.0) all) number (numbered_at 0 ds j own.0 own.1) in
    in_each (conflicts_of all) (j, own.0) all (p, i, j) stands of_doc

-- the list has exactly what is dropped
pub listed_where_dropped : (ds : List Data) (p : Place) (i j : ℕ) → IsOneOf (p, i, j) (conflicts ds) ↔ IsConflict ds p i j
listed_where_dropped ds p i j = (listed_is_dropped ds p i j, dropped_is_listed ds p i j)

-- ---- nothing is dropped

empty_without : (cs : List Conflict) → ((c : Conflict) → IsOneOf c cs → ⊥) → cs ≡ []
empty_without [] none = refl
empty_without (c ∷ cs) none = absurd (none c (inl refl))

-- the list is empty exactly where each value is kept
pub nothing_where_kept : (ds : List Data) → (conflicts ds ≡ []) ↔ AllKept ds
nothing_where_kept ds = (
  λ none i j s v own by other another. subst (λ cs. IsOneOf (place s, i, j) cs) none (dropped_is_listed ds (place s) i j (s, v, refl, own, by, other, another)),
  λ kept. empty_without (conflicts ds) (λ c h. let d = listed_is_dropped ds c.0 c.1 c.2 h in kept c.1 c.2 d.0 d.1 d.3 d.4 d.5 d.6),
)

alone : (d : Data) (i : ℕ) (e : Data) → slice_get (d ∷ []) i ≡ Some e → i ≡ 0
alone d zero e at = refl
alone d (suc i) e at = absurd (none-some e at)

-- of one document nothing is dropped
pub of_one : (d : Data) → conflicts (d ∷ []) ≡ []
of_one d = (nothing_where_kept (d ∷ [])).1 (λ i j s v own by other another. other (alone d i another.0 another.1 ∙ sym (alone d j own.0 own.1)))
