-- What is noted of the documents that operations come from.
use Rattle.std.proofs.Common.{◌≡◌, ℕ, suc, ◌+◌, ◌<◌, ◌≤◌, length, get_or, drop, drop-cons, add-one, ◌||◌, List, [], ◌∷◌, Bool, true, false, cond, if◌then◌else◌, ◌&&◌, Option, None, Some, is_some, Ordering, Less, Equal, Greater, refl, sym, ap, ◌∙◌, true≢false}
use Rattle.std.proofs.lemmas.List.{drop_all}
use Rattle.std.proofs.lemmas.Map.Text.{is_eq-slice_cmp}
use Rattle.std.proofs.lemmas.Slice.Eq.{bytes_eq-Decides}
use Rattle.std.specs.BTreeMap.{BTreeMap, insert_entry, is_at}
use Rattle.std.specs.Cmp.Lexicographic.{slice_cmp}
use Rattle.std.specs.Map.{lookup}
use Rattle.std.specs.Option.{option_or}
use Rattle.std.specs.Ordering.{nat_cmp, match_ordering, is_eq, ordering_then}
use Rattle.std.specs.Str.{bytes_eq}
use Rattle.serde_json.specs.View.{view}
use Rattle.serde_json.specs.declared.value.Value.{Value}
use Rattle.utoipa_base.proofs.BoolFacts.{and_first, and_second}
use Rattle.utoipa_meaning.specs.Operations as specs
use Rattle.utoipa_meaning.specs.Operations.{method_at, additional_at, same_place, if_so, stands_among, first_with, operations}
use Rattle.utoipa_meaning.specs.Views.{place_of, all_operations, is_key, noted, trees_of}
use Rattle.utoipa_meaning.specs.contracts.operation.OperationPlaceOrd.TheImpl as place_ord
use Rattle.utoipa_meaning.specs.declared.operation.Operation.{Operation}
use Rattle.utoipa_meaning.specs.declared.operation.OperationPlace.{OperationPlace}
use Rattle.utoipa_meaning.specs.declared.operation.OperationPlace.TheVariants as variants

-- ---- the same place

one_of_two : (f : List ℕ → List ℕ → specs.OperationPlace) (a b c d : List ℕ) → bytes_eq a c && bytes_eq b d ≡ true → f a b ≡ f c d
one_of_two f a b c d e =
    ap (λ x. f x b) ((bytes_eq-Decides a c).0 (and_first (bytes_eq a c) (bytes_eq b d) e)) ∙ ap (f c) ((bytes_eq-Decides b d).0 (and_second (bytes_eq a c) (bytes_eq b d) e))

-- places that the test does not tell apart are one
pub one_place : (p q : specs.OperationPlace) → same_place p q ≡ true → p ≡ q
one_place (method_at a b) (method_at c d) e = one_of_two method_at a b c d e
one_place (additional_at a b) (additional_at c d) e = one_of_two additional_at a b c d e
one_place p q e = absurd (true≢false (sym e))

-- ---- the keys of the map

chained : (o p : Ordering) → is_eq (ordering_then o p) ≡ (is_eq o && is_eq p)
chained Less p = refl
chained Equal p = refl
chained Greater p = refl

ties : (a b c d : List ℕ) → is_eq (ordering_then (slice_cmp nat_cmp a c) (slice_cmp nat_cmp b d)) ≡ (bytes_eq a c && bytes_eq b d)
ties a b c d = chained (slice_cmp nat_cmp a c) (slice_cmp nat_cmp b d) ∙ ap (λ x. x && is_eq (slice_cmp nat_cmp b d)) (is_eq-slice_cmp a c) ∙ ap (λ x. bytes_eq a c && x) (is_eq-slice_cmp b d)

-- two keys are equal where they are one place
tie : (p q : OperationPlace) → is_eq ((place_ord.ghosts).cmp p q) ≡ is_key (place_of p) q
tie (variants.Method a b) (variants.Method c d) = ties a.now b.now c.now d.now
tie (variants.Additional a b) (variants.Additional c d) = ties a.now b.now c.now d.now
tie p q = refl

abbrev Entries : Type 0
Entries = List (OperationPlace × ℕ)

-- a key is looked up by its place
pub looked_up : (k : OperationPlace) (es : Entries) → lookup (is_at ((place_ord.ghosts).cmp k)) es ≡ lookup (is_key (place_of k)) es
looked_up k [] = refl
looked_up k (e ∷ es) = ap (λ b. cond b (Some e.1) (lookup (is_at ((place_ord.ghosts).cmp k)) es)) (tie k e.0) ∙ ap (λ o. cond (is_key (place_of k) e.0) (Some e.1) o) (looked_up k es)

-- ---- one more entry

-- the same test, twice
once : {X : Type 0} (b : Bool) (x y z : X) → cond b x z ≡ cond b x (cond b y z)
once true x y z = refl
once false x y z = refl

-- two tests of which one fails
either : {X : Type 0} (b c : Bool) (x y z : X) → (b ≡ true → c ≡ true → ⊥) → cond c y (cond b x z) ≡ cond b x (cond c y z)
either true true x y z apart = absurd (apart refl refl)
either true false x y z apart = refl
either false c x y z apart = refl

-- a key that is another is not at this place where the first is
other_key : (p : specs.OperationPlace) (k l : OperationPlace) → is_key (place_of k) l ≡ false → is_key p k ≡ true → is_key p l ≡ true → ⊥
other_key p k l apart one two = true≢false (sym two ∙ ap (λ q. is_key q l) (one_place p (place_of k) one) ∙ apart)

inserted_at : (o : Ordering) (p : specs.OperationPlace) (k : OperationPlace) (d : ℕ) (e : OperationPlace × ℕ) (es : Entries) → is_eq o ≡ is_key (place_of k) e.0
    → lookup (is_key p) (insert_entry (place_ord.ghosts).cmp es k d) ≡ cond (is_key p k) (Some d) (lookup (is_key p) es)
    → lookup (is_key p) (match_ordering o ((k, d) ∷ e ∷ es) ((e.0, d) ∷ es) (e ∷ insert_entry (place_ord.ghosts).cmp es k d)) ≡ cond (is_key p k) (Some d) (lookup (is_key p) (e ∷ es))
inserted_at Less p k d e es tied more = refl
inserted_at Equal p k d e es tied more =
    let same : is_key p e.0 ≡ is_key p k = ap (same_place p) (sym (one_place (place_of k) (place_of e.0) (sym tied))) in
    ap (λ b. cond b (Some d) (lookup (is_key p) es)) same ∙ once (is_key p k) (Some d) (Some e.1) (lookup (is_key p) es) ∙ ap (λ b. cond (is_key p k) (Some d) (cond b (Some e.1) (lookup (is_key p) es))) (sym same)
inserted_at Greater p k d e es tied more =
    ap (cond (is_key p e.0) (Some e.1)) more ∙ either (is_key p k) (is_key p e.0) (Some d) (Some e.1) (lookup (is_key p) es) (other_key p k e.0 (sym tied))

-- a place has the number that was put at its key, and else what it had
inserted : (p : specs.OperationPlace) (k : OperationPlace) (d : ℕ) (es : Entries) → lookup (is_key p) (insert_entry (place_ord.ghosts).cmp es k d) ≡ cond (is_key p k) (Some d) (lookup (is_key p) es)
inserted p k d [] = refl
inserted p k d (e ∷ es) = inserted_at ((place_ord.ghosts).cmp k e.0) p k d e es (tie k e.0) (inserted p k d es)

-- ---- what is noted

or_none : (o : Option ℕ) → option_or o None ≡ o
or_none None = refl
or_none (Some n) = refl

where_none : (o : Option ℕ) (n : ℕ) → is_some o ≡ false → Some n ≡ option_or o (Some n)
where_none None n none = refl
where_none (Some m) n none = absurd (true≢false none)

where_some : (o : Option ℕ) (n : ℕ) → is_some o ≡ true → o ≡ option_or o (Some n)
where_some None n there = absurd (true≢false (sym there))
where_some (Some m) n there = refl

new_by : (b : Bool) (p : specs.OperationPlace) (k : OperationPlace) (n : ℕ) (es : Entries) → same_place p (place_of k) ≡ b → is_some (lookup (is_key (place_of k)) es) ≡ false
    → cond b (Some n) (lookup (is_key p) es) ≡ option_or (lookup (is_key p) es) (if_so b n)
new_by true p k n es is none = where_none (lookup (is_key p) es) n (ap (λ q. is_some (lookup (is_key q) es)) (one_place p (place_of k) is) ∙ none)
new_by false p k n es is none = sym (or_none (lookup (is_key p) es))

-- a number that was put where there was none
pub noted_new : (m after : BTreeMap OperationPlace ℕ) (k : OperationPlace) (n : ℕ) → after.entries ≡ insert_entry (place_ord.ghosts).cmp m.entries k n → is_some (lookup (is_key (place_of k)) m.entries) ≡ false
    → (p : specs.OperationPlace) → noted after p ≡ option_or (noted m p) (if_so (same_place p (place_of k)) n)
noted_new m after k n put none p = ap (lookup (is_key p)) put ∙ inserted p k n m.entries ∙ new_by (same_place p (place_of k)) p k n m.entries refl none

old_by : (b : Bool) (p : specs.OperationPlace) (k : OperationPlace) (n : ℕ) (es : Entries) → same_place p (place_of k) ≡ b → is_some (lookup (is_key (place_of k)) es) ≡ true
    → lookup (is_key p) es ≡ option_or (lookup (is_key p) es) (if_so b n)
old_by true p k n es is there = where_some (lookup (is_key p) es) n (ap (λ q. is_some (lookup (is_key q) es)) (one_place p (place_of k) is) ∙ there)
old_by false p k n es is there = sym (or_none (lookup (is_key p) es))

-- nothing was put, since there was one
pub noted_old : (m : BTreeMap OperationPlace ℕ) (k : OperationPlace) (n : ℕ) → is_some (lookup (is_key (place_of k)) m.entries) ≡ true
    → (p : specs.OperationPlace) → noted m p ≡ option_or (noted m p) (if_so (same_place p (place_of k)) n)
noted_old m k n there p = old_by (same_place p (place_of k)) p k n m.entries refl there

-- ---- one operation after the other

again : (a b : Bool) (o : Option ℕ) (n : ℕ) → option_or (option_or o (if_so a n)) (if_so b n) ≡ option_or o (if_so (a || b) n)
again true b None n = refl
again false b None n = refl
again a b (Some m) n = refl

-- what is left to note, once the next operation was noted
pub next_noted : (os : List Operation) (i : ℕ) (x : Operation) (n : ℕ) (now after whole : Option ℕ) (p : specs.OperationPlace) → i < length os → x ≡ get_or os i x
    → after ≡ option_or now (if_so (same_place p (place_of x.place)) n) → option_or now (if_so (stands_among p (all_operations (drop i os))) n) ≡ whole
    → option_or after (if_so (stands_among p (all_operations (drop (i + 1) os))) n) ≡ whole
next_noted os i x n now after whole p within is put so_far =
    let rest = stands_among p (all_operations (drop (i + 1) os)) in
    let first : drop i os ≡ x ∷ drop (i + 1) os = drop-cons os i x within ∙ ap (λ y. y ∷ drop (suc i) os) (sym is) ∙ ap (λ k. x ∷ drop k os) (sym (add-one i)) in
    ap (λ o. option_or o (if_so rest n)) put ∙ again (same_place p (place_of x.place)) rest now n ∙ sym (ap (λ xs. option_or now (if_so (stands_among p (all_operations xs)) n)) first) ∙ so_far

-- no operation is left
pub all_noted : (os : List Operation) (i n : ℕ) (now whole : Option ℕ) (p : specs.OperationPlace) → length os ≤ i → option_or now (if_so (stands_among p (all_operations (drop i os))) n) ≡ whole → now ≡ whole
all_noted os i n now whole p past so_far = sym (or_none now) ∙ sym (ap (λ xs. option_or now (if_so (stands_among p (all_operations xs)) n)) (drop_all i os past)) ∙ so_far

-- ---- one document after the other

then_later : (b : Bool) (o rest : Option ℕ) (n : ℕ) → option_or (option_or o (if_so b n)) rest ≡ option_or o (if b then Some n else rest)
then_later true None rest n = refl
then_later false None rest n = refl
then_later b (Some m) rest n = refl

pub next_document : (vs : List Value) (i : ℕ) (v : Value) (os : List specs.Operation) (now after whole : Option ℕ) (p : specs.OperationPlace) → i < length vs → v ≡ get_or vs i v → os ≡ operations (view v)
    → after ≡ option_or now (if_so (stands_among p os) i) → option_or now (first_with p i (trees_of (drop i vs))) ≡ whole → option_or after (first_with p (i + 1) (trees_of (drop (i + 1) vs))) ≡ whole
next_document vs i v os now after whole p within is listed put so_far =
    let later = first_with p (i + 1) (trees_of (drop (i + 1) vs)) in
    let first : drop i vs ≡ v ∷ drop (i + 1) vs = drop-cons vs i v within ∙ ap (λ y. y ∷ drop (suc i) vs) (sym is) ∙ ap (λ k. v ∷ drop k vs) (sym (add-one i)) in
    let here : first_with p i (trees_of (drop i vs)) ≡ (if stands_among p (operations (view v)) then Some i else later) =
    ap (λ xs. first_with p i (trees_of xs)) first ∙ ap (λ k. if stands_among p (operations (view v)) then Some i else first_with p k (trees_of (drop (i + 1) vs))) (sym (add-one i))
    in
    ap (λ o. option_or o later) (put ∙ ap (λ xs. option_or now (if_so (stands_among p xs) i)) listed) ∙ then_later (stands_among p (operations (view v))) now later i ∙ ap (option_or now) (sym here) ∙ so_far

pub all_documents : (vs : List Value) (i : ℕ) (now whole : Option ℕ) (p : specs.OperationPlace) → length vs ≤ i → option_or now (first_with p i (trees_of (drop i vs))) ≡ whole → now ≡ whole
all_documents vs i now whole p past so_far = sym (or_none now) ∙ sym (ap (λ xs. option_or now (first_with p i (trees_of xs))) (drop_all i vs past)) ∙ so_far
