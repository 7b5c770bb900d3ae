-- What a set of the names of parameters has.
use Rattle.std.proofs.Common.{◌≡◌, ℕ, suc, ◌+◌, ◌<◌, ◌≤◌, length, get_or, drop, drop-cons, add-one, ◌||◌, List, [], ◌∷◌, ◌++◌, Bool, true, false, ◌&&◌, not, cond, Bor, Option, None, Some, option_map, Ordering, Less, Equal, Greater, refl, sym, ap, ◌∙◌}
use Rattle.std.proofs.lemmas.List.{drop_all}
use Rattle.std.proofs.lemmas.Map.Text.{is_eq-slice_cmp}
use Rattle.std.proofs.lemmas.Slice.Eq.{bytes_eq-Decides}
use Rattle.std.specs.BTreeMap.{is_at}
use Rattle.std.specs.BTreeSet.{BTreeSet, insert_key}
use Rattle.std.specs.Cmp.Lexicographic.{slice_cmp}
use Rattle.std.specs.List.{list_any}
use Rattle.std.specs.Ordering.{nat_cmp, match_ordering, is_eq, ordering_then}
use Rattle.std.specs.Str.{bytes_eq}
use Rattle.serde_json.specs.Data.{Data}
use Rattle.serde_json.specs.View.{view}
use Rattle.serde_json.specs.declared.value.Value.{Value}
use Rattle.utoipa_base.proofs.BoolFacts.{and_first, and_second}
use Rattle.utoipa_meaning.specs.Meaning.{Names, same_names, has_names, names_in, is_listed, is_overridden, not_overridden, listed_parameters, effective_parameters}
use Rattle.utoipa_meaning.specs.Views.{names_of, has_key, borrowed}
use Rattle.utoipa_meaning.specs.contracts.parameters.ParameterKeyOrd.TheImpl as key_ord
use Rattle.utoipa_meaning.specs.declared.parameters.ParameterKey.{ParameterKey}

-- ---- the keys

chained : (o p : Ordering) → is_eq (ordering_then o p) ≡ (is_eq o && is_eq p)
chained Less p = refl
chained Equal p = refl
chained Greater p = refl

-- two keys are equal where they have the same names
tie : (k l : ParameterKey) → is_eq ((key_ord.ghosts).cmp k l) ≡ same_names (names_of k) (names_of l)
tie k l =
    chained (slice_cmp nat_cmp k.name.now l.name.now) (slice_cmp nat_cmp k.place.now l.place.now)
    ∙ ap (λ x. x && is_eq (slice_cmp nat_cmp k.place.now l.place.now)) (is_eq-slice_cmp k.name.now l.name.now) ∙ ap (λ x. bytes_eq k.name.now l.name.now && x) (is_eq-slice_cmp k.place.now l.place.now)

-- a key is looked up by its names
pub looked_up : (k : ParameterKey) (ks : List ParameterKey) → list_any (is_at ((key_ord.ghosts).cmp k)) ks ≡ list_any (λ l. same_names (names_of k) (names_of l)) ks
looked_up k [] = refl
looked_up k (l ∷ ks) = ap (λ b. b || list_any (is_at ((key_ord.ghosts).cmp k)) ks) (tie k l) ∙ ap (λ b. same_names (names_of k) (names_of l) || b) (looked_up k ks)

-- names that the test does not tell apart are the same
one_pair : (n m : Names) → same_names n m ≡ true → (k : Names) → same_names k m ≡ same_names k n
one_pair n m e k =
    ap (λ s. bytes_eq k.0 s && bytes_eq k.1 m.1) (sym ((bytes_eq-Decides n.0 m.0).0 (and_first (bytes_eq n.0 m.0) (bytes_eq n.1 m.1) e)))
    ∙ ap (λ s. bytes_eq k.0 n.0 && bytes_eq k.1 s) (sym ((bytes_eq-Decides n.1 m.1).0 (and_second (bytes_eq n.0 m.0) (bytes_eq n.1 m.1) e)))

-- ---- one more key

twice : (a b c : Bool) → a ≡ b → (a || c) ≡ (b || (a || c))
twice true b c same = ap (λ x. x || true) same
twice false b c same = ap (λ x. x || c) same

turned : (a b c : Bool) → (a || (b || c)) ≡ (b || (a || c))
turned true true c = refl
turned true false c = refl
turned false b c = refl

inserted_at : (o : Ordering) (n : Names) (k l : ParameterKey) (ks : List ParameterKey) → is_eq o ≡ same_names (names_of k) (names_of l)
    → list_any (λ x. same_names n (names_of x)) (insert_key (key_ord.ghosts).cmp ks k) ≡ (same_names n (names_of k) || list_any (λ x. same_names n (names_of x)) ks)
    → list_any (λ x. same_names n (names_of x)) (match_ordering o (k ∷ l ∷ ks) (l ∷ ks) (l ∷ insert_key (key_ord.ghosts).cmp ks k)) ≡ (same_names n (names_of k) || list_any (λ x. same_names n (names_of x)) (l ∷ ks))
inserted_at Less n k l ks tied more = refl
inserted_at Equal n k l ks tied more =
    twice (same_names n (names_of l)) (same_names n (names_of k)) (list_any (λ x. same_names n (names_of x)) ks) (one_pair (names_of k) (names_of l) (sym tied) n)
inserted_at Greater n k l ks tied more =
    ap (λ b. same_names n (names_of l) || b) more ∙ turned (same_names n (names_of l)) (same_names n (names_of k)) (list_any (λ x. same_names n (names_of x)) ks)

inserted : (n : Names) (k : ParameterKey) (ks : List ParameterKey) → list_any (λ x. same_names n (names_of x)) (insert_key (key_ord.ghosts).cmp ks k) ≡ (same_names n (names_of k) || list_any (λ x. same_names n (names_of x)) ks)
inserted n k [] = refl
inserted n k (l ∷ ks) = inserted_at ((key_ord.ghosts).cmp k l) n k l ks (tie k l) (inserted n k ks)

-- the names of a parameter that has them were noted
pub noted_key : (before after : BTreeSet ParameterKey) (k : ParameterKey) (found : Option ParameterKey) (names : Option Names) → after.keys ≡ insert_key (key_ord.ghosts).cmp before.keys k → found ≡ Some k → option_map names_of found ≡ names
    → (n : Names) → has_key after n ≡ (has_names n names || has_key before n)
noted_key before after k found names put is named n =
    ap (list_any (λ x. same_names n (names_of x))) put ∙ inserted n k before.keys ∙ ap (λ o. has_names n o || has_key before n) (sym (ap (option_map names_of) is) ∙ named)

-- whether a parameter is overridden, by its key
pub by_key : (keys : BTreeSet ParameterKey) (k : ParameterKey) (found : Option ParameterKey) (names : Option Names) (b : Bool) → b ≡ list_any (is_at ((key_ord.ghosts).cmp k)) keys.keys → found ≡ Some k → option_map names_of found ≡ names
    → b ≡ is_overridden (has_key keys) names
by_key keys k found names b has is named = has ∙ looked_up k keys.keys ∙ ap (is_overridden (has_key keys)) (sym (ap (option_map names_of) is) ∙ named)

-- ---- one parameter after the other

or_false : (b : Bool) → (b || false) ≡ b
or_false true = refl
or_false false = refl

turned_twice : (a b c : Bool) → (b || (a || c)) ≡ ((a || b) || c)
turned_twice true true c = refl
turned_twice true false c = refl
turned_twice false b c = refl

first_of_rest : {X : Type 0} (xs : List X) (i : ℕ) (x : X) → i < length xs → x ≡ get_or xs i x → drop i xs ≡ x ∷ drop (i + 1) xs
first_of_rest xs i x within is = drop-cons xs i x within ∙ ap (λ y. y ∷ drop (suc i) xs) (sym is) ∙ ap (λ k. x ∷ drop k xs) (sym (add-one i))

-- what is left to note, once the next parameter was noted
pub next_key : (ps : List (Bor Value)) (i : ℕ) (p : Bor Value) (n : Names) (now after whole : Bool) → i < length ps → p ≡ get_or ps i p → after ≡ (has_names n (names_in (view p.now)) || now)
    → (is_listed n (borrowed (drop i ps)) || now) ≡ whole → (is_listed n (borrowed (drop (i + 1) ps)) || after) ≡ whole
next_key ps i p n now after whole within is put so_far =
    let rest = is_listed n (borrowed (drop (i + 1) ps)) in
    let here = has_names n (names_in (view p.now)) in
    ap (λ b. rest || b) put ∙ turned_twice here rest now ∙ sym (ap (λ xs. is_listed n (borrowed xs) || now) (first_of_rest ps i p within is)) ∙ so_far

pub all_keys : (ps : List (Bor Value)) (i : ℕ) (n : Names) (now whole : Bool) → length ps ≤ i → (is_listed n (borrowed (drop i ps)) || now) ≡ whole → now ≡ whole
all_keys ps i n now whole past so_far = sym (ap (λ xs. is_listed n (borrowed xs) || now) (drop_all i ps past)) ∙ so_far

-- ---- the parameters that are in effect

same_test : (f g : Names → Bool) (o : Option Names) → ((n : Names) → f n ≡ g n) → is_overridden f o ≡ is_overridden g o
same_test f g None same = refl
same_test f g (Some n) same = same n

same_others : (f g : Names → Bool) (ds : List Data) → ((n : Names) → f n ≡ g n) → not_overridden f ds ≡ not_overridden g ds
same_others f g [] same = refl
same_others f g (d ∷ ds) same =
    ap (λ b. cond (not b) (d ∷ not_overridden f ds) (not_overridden f ds)) (same_test f g (names_in d) same) ∙ ap (λ es. cond (not (is_overridden g (names_in d))) (d ∷ es) es) (same_others f g ds same)

pub in_effect : (document path_item operation : Data) (own of_item result : List Data) (f : Names → Bool) → own ≡ listed_parameters document operation → of_item ≡ listed_parameters document path_item
    → ((n : Names) → f n ≡ is_listed n own) → result ≡ own ++ not_overridden f of_item → result ≡ effective_parameters document path_item operation
in_effect document path_item operation own of_item result f is_own is_of_item noted put =
    let others = listed_parameters document path_item in
    put ∙ ap (λ es. own ++ not_overridden f es) is_of_item ∙ ap (λ es. own ++ es) (same_others f (λ n. is_listed n own) others noted) ∙ ap (λ es. es ++ not_overridden (λ n. is_listed n es) others) is_own
