-- A function gives each name something or nothing. If it gives nothing but to some names, there are entries in the order of their names that say
-- the same: so maps are made of look-ups.
use Rattle.std.proofs.Common.{◌≡◌, ℕ, List, [], ◌∷◌, ◌++◌, Bool, true, false, cond, Option, Some, None, refl, sym, ap, ◌∙◌, Ordering, Less, Equal, Greater, nat_cmp}
use Rattle.std.specs.Ordering.{is_eq, match_ordering}
use Rattle.std.specs.Cmp.Lexicographic.{slice_cmp}
use Rattle.std.specs.List.Sorted.{IsStrictlySortedBy}
use Rattle.std.specs.Map.{keys_of}
use Rattle.std.specs.BTreeMap.{insert_entry}
use Rattle.std.proofs.lemmas.Cmp.{nat_list_cmp_total, tied_itself}
use Rattle.std.proofs.lemmas.Map.Lookups.{exact_bytes}
use Rattle.utoipa_merging.specs.Merged.{Ascends}
use Rattle.utoipa_merging.proofs.InOrder.{find_in}
use Rattle.utoipa_merging.proofs.Inserted.{sorted_insert}
use Rattle.utoipa_merging.proofs.PutEach.{again, swapped}

abbrev C : List ℕ → List ℕ → Ordering
C a b = slice_cmp nat_cmp a b

-- ---- whether a name is one of some

abbrev pub is_named : List ℕ → List (List ℕ) → Bool
is_named q [] = false
is_named q (n ∷ ns) = cond (is_eq (C q n)) true (is_named q ns)

-- a name that is not among both lists is not in either
pub not_named : (q : List ℕ) (ns ms : List (List ℕ)) → is_named q (ns ++ ms) ≡ false → (is_named q ns ≡ false) × (is_named q ms ≡ false)
not_named q [] ms h = (refl, h)
not_named q (n ∷ ns) ms h = go (is_eq (C q n)) (not_named q ns ms) h
  where
    go : (b : Bool) → (is_named q (ns ++ ms) ≡ false → (is_named q ns ≡ false) × (is_named q ms ≡ false)) → cond b true (is_named q (ns ++ ms)) ≡ false
        → (cond b true (is_named q ns) ≡ false) × (is_named q ms ≡ false)
    go true later e = cc
    go false later e = later e

-- nothing is found under a name that no entry has
pub none_found : {X : Type 0} (es : List (List ℕ × X)) (q : List ℕ) → is_named q (keys_of es) ≡ false → find_in es q ≡ None
none_found [] q h = refl
none_found {X} (e ∷ es) q h = go (is_eq (C q e.0)) (none_found es q) h
  where
    go : (b : Bool) → (is_named q (keys_of es) ≡ false → find_in es q ≡ None) → cond b true (is_named q (keys_of es)) ≡ false → cond b (Some e.1) (find_in es q) ≡ None
    go true later e = cc
    go false later e = later e

-- ---- an entry that is put

equal_if : (o : Ordering) → is_eq o ≡ true → o ≡ Equal
equal_if Less e = cc
equal_if Equal e = refl
equal_if Greater e = cc

-- a name that ties with another is that other
same_name : (q n : List ℕ) → is_eq (C q n) ≡ true → q ≡ n
same_name q n h = exact_bytes q n (equal_if (C q n) h)

-- a name stands at its own place in the order
not_above : (q k l : List ℕ) → C k l ≡ Greater → is_eq (C q l) ≡ true → is_eq (C q k) ≡ true → ⊥
not_above q k l above e f =
    let same : k ≡ l = sym (same_name q k f) ∙ same_name q l e in
    let level : C k l ≡ Equal = ap (C k) (sym same) ∙ tied_itself nat_list_cmp_total k in
    cc

found_put_at : {X : Type 0} (o : Ordering) (e : List ℕ × X) (es : List (List ℕ × X)) (k : List ℕ) (v : X) (q : List ℕ) → C k e.0 ≡ o
    → find_in (insert_entry C es k v) q ≡ cond (is_eq (C q k)) (Some v) (find_in es q)
    → find_in (match_ordering o ((k, v) ∷ e ∷ es) ((e.0, v) ∷ es) (e ∷ insert_entry C es k v)) q ≡ cond (is_eq (C q k)) (Some v) (find_in (e ∷ es) q)
found_put_at Less e es k v q is later = refl
found_put_at Equal e es k v q is later =
    let same : k ≡ e.0 = exact_bytes k e.0 is in
    ap (λ n. cond (is_eq (C q n)) (Some v) (find_in es q)) (sym same)
    ∙ again (is_eq (C q k)) (Some v) (Some e.1) (find_in es q)
    ∙ ap (λ n. cond (is_eq (C q k)) (Some v) (cond (is_eq (C q n)) (Some e.1) (find_in es q))) same
found_put_at Greater e es k v q is later =
    ap (cond (is_eq (C q e.0)) (Some e.1)) later
    ∙ swapped (is_eq (C q e.0)) (is_eq (C q k)) (Some e.1) (Some v) (find_in es q) (not_above q k e.0 is)

-- an entry that was put is found under its name, and under each other name what was found before
found_put : {X : Type 0} (es : List (List ℕ × X)) (k : List ℕ) (v : X) (q : List ℕ) → find_in (insert_entry C es k v) q ≡ cond (is_eq (C q k)) (Some v) (find_in es q)
found_put [] k v q = refl
found_put (e ∷ es) k v q = found_put_at (C k e.0) e es k v q refl (found_put es k v q)

-- ---- the entries of a function

-- the entries say what f says of these names, and nothing of others
record AreOf {X : Type 0} (f : List ℕ → Option X) (names : List (List ℕ)) : Type 0 where
  pub entries : List (List ℕ × X)
  pub ascend : Ascends (keys_of entries)
  pub found : (q : List ℕ) → find_in entries q ≡ cond (is_named q names) (f q) None

-- one more name, to which f gives nothing
name_without : {X : Type 0} (f : List ℕ → Option X) (n : List ℕ) (named : Bool) (q : List ℕ) → f n ≡ None → (b : Bool) → is_eq (C q n) ≡ b → cond named (f q) None ≡ cond (cond b true named) (f q) None
name_without f n true q none true is = refl
name_without f n false q none true is = sym (ap f (same_name q n is) ∙ none)
name_without f n named q none false is = refl

-- one more name, to which f gives something
name_with : {X : Type 0} (f : List ℕ → Option X) (n : List ℕ) (x : X) (found : Option X) (named : Bool) (q : List ℕ) → f n ≡ Some x → found ≡ cond named (f q) None → (b : Bool) → is_eq (C q n) ≡ b
    → cond b (Some x) found ≡ cond (cond b true named) (f q) None
name_with f n x found named q some before true is = sym (ap f (same_name q n is) ∙ some)
name_with f n x found named q some before false is = before

name_more : {X : Type 0} (f : List ℕ → Option X) (n : List ℕ) (ns : List (List ℕ)) (o : Option X) → f n ≡ o → AreOf f ns → AreOf f (n ∷ ns)
name_more f n ns None is g = record { entries = g.entries; ascend = g.ascend; found = λ q. g.found q ∙ name_without f n (is_named q ns) q is (is_eq (C q n)) refl }
name_more f n ns (Some x) is g = record {
  entries = insert_entry C g.entries n x;
  ascend = sorted_insert nat_list_cmp_total g.entries n x g.ascend;
  found = λ q. found_put g.entries n x q ∙ name_with f n x (find_in g.entries q) (is_named q ns) q is (g.found q) (is_eq (C q n)) refl;
}

of_names : {X : Type 0} (f : List ℕ → Option X) (ns : List (List ℕ)) → AreOf f ns
unfolding IsStrictlySortedBy
of_names f [] = record { entries = []; ascend = tt; found = λ q. refl }
of_names f (n ∷ ns) = name_more f n ns (f n) refl (of_names f ns)

-- entries in the order of their names that say what f says
pub record AreGathered {X : Type 0} (f : List ℕ → Option X) : Type 0 where
  pub entries : List (List ℕ × X)
  pub ascend : Ascends (keys_of entries)
  pub found : (q : List ℕ) → find_in entries q ≡ f q

pub gathered : {X : Type 0} (f : List ℕ → Option X) (names : List (List ℕ)) → ((q : List ℕ) → is_named q names ≡ false → f q ≡ None) → AreGathered f
gathered {X} f names nothing = let g = of_names f names in record { entries = g.entries; ascend = g.ascend; found = λ q. g.found q ∙ go q (is_named q names) refl }
  where
    go : (q : List ℕ) (b : Bool) → is_named q names ≡ b → cond b (f q) None ≡ f q
    go q true is = refl
    go q false is = sym (nothing q is)
