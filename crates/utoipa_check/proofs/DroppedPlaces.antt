-- The list has a place exactly where it is dropped.
use Rattle.std.proofs.Common.{◌≡◌, ◌↔◌, ◌⊎◌, inl, inr, ℕ, zero, suc, ◌+◌, List, [], ◌∷◌, ◌++◌, Bool, true, false, Option, None, Some, refl, sym, ap, ◌∙◌, subst, arith, true≢false}
use Rattle.serde_json.specs.Data.{Data, null, boolean, number, string, array, object, Items, no_items, item, Members, no_members, member}
use Rattle.serde_json.specs.Find.{get, at, get_item}
use Rattle.utoipa_check.specs.Dropped.{Dropped, Loss, changed, under, behind, absence, is_alike, unless_alike, dropped, items_dropped, members_dropped}
use Rattle.utoipa_check.specs.Has.{IsAlike}
use Rattle.utoipa_check.specs.IsDropped.{IsMember, Fate, IsDropped, IsListed}
use Rattle.utoipa_check.specs.Misfits.{Step, at_name, at_index}
use Rattle.utoipa_check.proofs.DroppedHas.{alike}

-- ---- lists

in_join : (p : Dropped) (xs ys : List Dropped) → IsListed p (xs ++ ys) → IsListed p xs ⊎ IsListed p ys
in_join p [] ys h = inr h
in_join p (x ∷ xs) ys (inl e) = inl (inl e)
in_join p (x ∷ xs) ys (inr h) = elim (in_join p xs ys h) [ inl a ↦ inl (inr a) | inr b ↦ inr b ]

in_first : (p : Dropped) (xs ys : List Dropped) → IsListed p xs → IsListed p (xs ++ ys)
in_first p [] ys h = absurd h
in_first p (x ∷ xs) ys (inl e) = inl e
in_first p (x ∷ xs) ys (inr h) = inr (in_first p xs ys h)

in_second : (p : Dropped) (xs ys : List Dropped) → IsListed p ys → IsListed p (xs ++ ys)
in_second p [] ys h = h
in_second p (x ∷ xs) ys h = inr (in_second p xs ys h)

-- a place behind a step, and its place from there
out_of_under : (p : Dropped) (s : Step) (xs : List Dropped) → IsListed p (under s xs) → (q : Dropped) × (p ≡ (s ∷ q.0, q.1)) × IsListed q xs
out_of_under p s [] h = absurd h
out_of_under p s (x ∷ xs) (inl e) = (x, e, inl refl)
out_of_under p s (x ∷ xs) (inr h) = let more = out_of_under p s xs h in (more.0, more.1, inr more.2)

into_under : (q : Dropped) (s : Step) (xs : List Dropped) → IsListed q xs → IsListed (s ∷ q.0, q.1) (under s xs)
into_under q s [] h = absurd h
into_under q s (x ∷ xs) (inl e) = inl (ap (λ (r : Dropped). (s ∷ r.0, r.1)) e)
into_under q s (x ∷ xs) (inr h) = inr (into_under q s xs h)

-- ---- one tree beside another

unless : (b : Bool) (p : Dropped) (inner : List Dropped) → IsListed p (unless_alike b inner) → ((b ≡ true) × IsListed p inner) ⊎ ((b ≡ false) × (p ≡ ([], changed)))
unless true p inner h = inl (refl, h)
unless false p inner (inl e) = inr (refl, e)
unless false p inner (inr h) = absurd h

-- the tree itself
changed_here : (d e : Data) (p : List Step) (l : Loss) → is_alike d e ≡ false → ◌≡◌ {A = Dropped} (p, l) ([], changed) → IsDropped p l d e
changed_here d e p l unlike is =
    let steps : p ≡ [] = ap (λ (q : Dropped). q.0) is in
    let loss : l ≡ changed = ap (λ (q : Dropped). q.1) is in
    subst (λ q. IsDropped q l d e) (sym steps) (λ a. true≢false (sym ((alike d e).1 a) ∙ unlike), loss)

listed_here : (b : Bool) (l : Loss) (inner : List Dropped) → b ≡ false → l ≡ changed → IsListed ([], l) (unless_alike b inner)
listed_here true l inner unlike is = absurd (true≢false unlike)
listed_here false l inner unlike is = inl (ap (λ m. ([], m)) is)

listed_inside : (b : Bool) (p : Dropped) (inner : List Dropped) → b ≡ true → IsListed p inner → IsListed p (unless_alike b inner)
listed_inside true p inner a h = h
listed_inside false p inner a h = absurd (true≢false (sym a))

unlike_where : (b : Bool) (d e : Data) → b ≡ is_alike d e → (IsAlike d e → ⊥) → b ≡ false
unlike_where true d e is not = absurd (not ((alike d e).0 (sym is)))
unlike_where false d e is not = refl

-- ---- behind a step

behind_found : (s : Step) (d : Data) (o : Option Data) (p : List Step) (l : Loss) → ((y : Data) (q : List Step) → IsListed (q, l) (dropped d y) → IsDropped q l d y)
    → IsListed (p, l) (behind s (absence s d) (dropped d) o) → (ss : List Step) × (p ≡ s ∷ ss) × Fate s d ss l (λ y. IsDropped ss l d y) o
behind_found s d None p l each (inl e) = ([], ap (λ (q : Dropped). q.0) e, (refl, ap (λ (q : Dropped). q.1) e))
behind_found s d None p l each (inr h) = absurd h
behind_found s d (Some y) p l each h =
    let from = out_of_under (p, l) s (dropped d y) h in
    let loss : from.0.1 ≡ l = sym (ap (λ (q : Dropped). q.1) from.1) in
    (from.0.0, ap (λ (q : Dropped). q.0) from.1, each y from.0.0 (subst (λ m. IsListed (from.0.0, m) (dropped d y)) loss from.2))

behind_listed : (s : Step) (d : Data) (o : Option Data) (ss : List Step) (l : Loss) → ((y : Data) → IsDropped ss l d y → IsListed (ss, l) (dropped d y)) → Fate s d ss l (λ y. IsDropped ss l d y) o
    → IsListed (s ∷ ss, l) (behind s (absence s d) (dropped d) o)
behind_listed s d None ss l each h = inl (ap (λ q. (s ∷ q, l)) h.0 ∙ ap (λ m. (s ∷ [], m)) h.1)
behind_listed s d (Some y) ss l each h = into_under (ss, l) s (dropped d y) (each y h)

-- ---- what is listed is dropped

-- an item, by its index from the first of some
abbrev ItemDropped : List Step → Loss → ℕ → Items → Data → Type 0
ItemDropped p l i ds e = (n : ℕ) × (j : ℕ) × (x : Data) × (ss : List Step) × (n ≡ j + i) × (get_item j ds ≡ Some x) × (p ≡ at_index n ∷ ss) × Fate (at_index n) x ss l (λ y. IsDropped ss l x y) (at n e)

abbrev MemberDropped : List Step → Loss → Members → Data → Type 0
MemberDropped p l ms e = (k : List ℕ) × (x : Data) × (ss : List Step) × IsMember k x ms × (p ≡ at_name k ∷ ss) × Fate (at_name k) x ss l (λ y. IsDropped ss l x y) (get k e)

item_inside : (p : List Step) (l : Loss) (ds : Items) (e : Data) → is_alike (array ds) e ≡ true → ItemDropped p l 0 ds e → IsDropped p l (array ds) e
item_inside p l ds e a (n, j, x, ss, at_n, got, steps, fate) =
    let same : j ≡ n = omega arith in
    subst (λ q. IsDropped q l (array ds) e) (sym steps) ((alike (array ds) e).0 a, (x, subst (λ m. get_item m ds ≡ Some x) same got, fate))

member_inside : (p : List Step) (l : Loss) (ms : Members) (e : Data) → is_alike (object ms) e ≡ true → MemberDropped p l ms e → IsDropped p l (object ms) e
member_inside p l ms e a (k, x, ss, among, steps, fate) = subst (λ q. IsDropped q l (object ms) e) (sym steps) ((alike (object ms) e).0 a, (x, among, fate))

item_first : (p : List Step) (l : Loss) (i : ℕ) (d : Data) (ds : Items) (e : Data) → (ss : List Step) × (p ≡ at_index i ∷ ss) × Fate (at_index i) d ss l (λ y. IsDropped ss l d y) (at i e) → ItemDropped p l i (item d ds) e
item_first p l i d ds e (ss, steps, fate) = (i, 0, d, ss, omega arith, refl, steps, fate)

item_later : (p : List Step) (l : Loss) (i : ℕ) (d : Data) (ds : Items) (e : Data) → ItemDropped p l (suc i) ds e → ItemDropped p l i (item d ds) e
item_later p l i d ds e (n, j, x, ss, at_n, got, steps, fate) = (n, suc j, x, ss, omega arith, got, steps, fate)

nothing_inside : (d e : Data) (p : List Step) (l : Loss) → ((is_alike d e ≡ true) × IsListed (p, l) []) ⊎ ((is_alike d e ≡ false) × (◌≡◌ {A = Dropped} (p, l) ([], changed))) → IsDropped p l d e
nothing_inside d e p l (inl h) = absurd h.1
nothing_inside d e p l (inr h) = changed_here d e p l h.0 h.1

mutual
  is_dropped : (d e : Data) (p : List Step) (l : Loss) → IsListed (p, l) (dropped d e) → IsDropped p l d e
  is_dropped null e p l h = nothing_inside null e p l (unless (is_alike null e) (p, l) [] h)
  is_dropped (boolean b) e p l h = nothing_inside (boolean b) e p l (unless (is_alike (boolean b) e) (p, l) [] h)
  is_dropped (number n) e p l h = nothing_inside (number n) e p l (unless (is_alike (number n) e) (p, l) [] h)
  is_dropped (string s) e p l h = nothing_inside (string s) e p l (unless (is_alike (string s) e) (p, l) [] h)
  is_dropped (array ds) e p l h =
      elim (unless (is_alike (array ds) e) (p, l) (items_dropped 0 ds e) h) [
        | inl a ↦ item_inside p l ds e a.0 (item_dropped ds 0 e p l a.1)
        | inr b ↦ changed_here (array ds) e p l b.0 b.1
      ]
  is_dropped (object ms) e p l h =
      elim (unless (is_alike (object ms) e) (p, l) (members_dropped ms e) h) [
        | inl a ↦ member_inside p l ms e a.0 (member_dropped ms e p l a.1)
        | inr b ↦ changed_here (object ms) e p l b.0 b.1
      ]

  item_dropped : (ds : Items) (i : ℕ) (e : Data) (p : List Step) (l : Loss) → IsListed (p, l) (items_dropped i ds e) → ItemDropped p l i ds e
  item_dropped no_items i e p l h = absurd h
  item_dropped (item d ds) i e p l h =
      elim (in_join (p, l) (behind (at_index i) (absence (at_index i) d) (dropped d) (at i e)) (items_dropped (suc i) ds e) h) [
        | inl a ↦ item_first p l i d ds e (behind_found (at_index i) d (at i e) p l (λ y q. is_dropped d y q l) a)
        | inr b ↦ item_later p l i d ds e (item_dropped ds (suc i) e p l b)
      ]

  member_dropped : (ms : Members) (e : Data) (p : List Step) (l : Loss) → IsListed (p, l) (members_dropped ms e) → MemberDropped p l ms e
  member_dropped no_members e p l h = absurd h
  member_dropped (member k d ms) e p l h =
      elim (in_join (p, l) (behind (at_name k) (absence (at_name k) d) (dropped d) (get k e)) (members_dropped ms e) h) [
        | inl a ↦ let from = behind_found (at_name k) d (get k e) p l (λ y q. is_dropped d y q l) a in (k, d, from.0, inl (refl, refl), from.1, from.2)
        | inr b ↦ let from = member_dropped ms e p l b in (from.0, from.1, from.2, inr from.3, from.4, from.5)
      ]

-- ---- what is dropped is listed

mutual
  is_listed : (d e : Data) (p : List Step) (l : Loss) → IsDropped p l d e → IsListed (p, l) (dropped d e)
  is_listed null e [] l h = listed_here (is_alike null e) l [] (unlike_where (is_alike null e) null e refl h.0) h.1
  is_listed null e (s ∷ ss) l h = absurd h.1.1
  is_listed (boolean b) e [] l h = listed_here (is_alike (boolean b) e) l [] (unlike_where (is_alike (boolean b) e) (boolean b) e refl h.0) h.1
  is_listed (boolean b) e (s ∷ ss) l h = absurd h.1.1
  is_listed (number n) e [] l h = listed_here (is_alike (number n) e) l [] (unlike_where (is_alike (number n) e) (number n) e refl h.0) h.1
  is_listed (number n) e (s ∷ ss) l h = absurd h.1.1
  is_listed (string t) e [] l h = listed_here (is_alike (string t) e) l [] (unlike_where (is_alike (string t) e) (string t) e refl h.0) h.1
  is_listed (string t) e (s ∷ ss) l h = absurd h.1.1
  is_listed (array ds) e [] l h = listed_here (is_alike (array ds) e) l (items_dropped 0 ds e) (unlike_where (is_alike (array ds) e) (array ds) e refl h.0) h.1
  is_listed (array ds) e (at_name k ∷ ss) l h = absurd h.1.1
  is_listed (array ds) e (at_index n ∷ ss) l h =
      listed_inside (is_alike (array ds) e) (at_index n ∷ ss, l) (items_dropped 0 ds e) ((alike (array ds) e).1 h.0) (item_listed ds 0 e n n h.1.0 ss l (omega arith) h.1.1 h.1.2)
  is_listed (object ms) e [] l h = listed_here (is_alike (object ms) e) l (members_dropped ms e) (unlike_where (is_alike (object ms) e) (object ms) e refl h.0) h.1
  is_listed (object ms) e (at_index n ∷ ss) l h = absurd h.1.1
  is_listed (object ms) e (at_name k ∷ ss) l h =
      listed_inside (is_alike (object ms) e) (at_name k ∷ ss, l) (members_dropped ms e) ((alike (object ms) e).1 h.0) (member_listed ms e k h.1.0 ss l h.1.1 h.1.2)

  item_listed : (ds : Items) (i : ℕ) (e : Data) (n j : ℕ) (x : Data) (ss : List Step) (l : Loss) → n ≡ j + i → get_item j ds ≡ Some x → Fate (at_index n) x ss l (λ y. IsDropped ss l x y) (at n e)
      → IsListed (at_index n ∷ ss, l) (items_dropped i ds e)
  item_listed no_items i e n j x ss l at_n got fate = cc
  item_listed (item d ds) i e n zero x ss l at_n got fate =
      let index : n ≡ i = omega arith in
      let tree : x ≡ d = cc in
      let own : Fate (at_index i) d ss l (λ y. IsDropped ss l d y) (at i e) = subst (λ t. Fate (at_index i) t ss l (λ y. IsDropped ss l t y) (at i e)) tree (subst (λ m. Fate (at_index m) x ss l (λ y. IsDropped ss l x y) (at m e)) index fate) in
      in_first (at_index n ∷ ss, l) (behind (at_index i) (absence (at_index i) d) (dropped d) (at i e)) (items_dropped (suc i) ds e)
      (subst (λ m. IsListed (at_index m ∷ ss, l) (behind (at_index i) (absence (at_index i) d) (dropped d) (at i e))) (sym index) (behind_listed (at_index i) d (at i e) ss l (λ y. is_listed d y ss l) own))
  item_listed (item d ds) i e n (suc j) x ss l at_n got fate =
      in_second (at_index n ∷ ss, l) (behind (at_index i) (absence (at_index i) d) (dropped d) (at i e)) (items_dropped (suc i) ds e) (item_listed ds (suc i) e n j x ss l (omega arith) got fate)

  member_listed : (ms : Members) (e : Data) (k : List ℕ) (x : Data) (ss : List Step) (l : Loss) → IsMember k x ms → Fate (at_name k) x ss l (λ y. IsDropped ss l x y) (get k e) → IsListed (at_name k ∷ ss, l) (members_dropped ms e)
  member_listed no_members e k x ss l among fate = absurd among
  member_listed (member m d ms) e k x ss l (inl is) fate =
      let own : Fate (at_name m) d ss l (λ y. IsDropped ss l d y) (get m e) = subst (λ t. Fate (at_name m) t ss l (λ y. IsDropped ss l t y) (get m e)) is.1 (subst (λ name. Fate (at_name name) x ss l (λ y. IsDropped ss l x y) (get name e)) is.0 fate) in
      in_first (at_name k ∷ ss, l) (behind (at_name m) (absence (at_name m) d) (dropped d) (get m e)) (members_dropped ms e)
      (subst (λ name. IsListed (at_name name ∷ ss, l) (behind (at_name m) (absence (at_name m) d) (dropped d) (get m e))) (sym is.0) (behind_listed (at_name m) d (get m e) ss l (λ y. is_listed d y ss l) own))
  member_listed (member m d ms) e k x ss l (inr among) fate =
      in_second (at_name k ∷ ss, l) (behind (at_name m) (absence (at_name m) d) (dropped d) (get m e)) (members_dropped ms e) (member_listed ms e k x ss l among fate)

pub listed_where_dropped : (d e : Data) (p : List Step) (l : Loss) → IsListed (p, l) (dropped d e) ↔ IsDropped p l d e
listed_where_dropped d e p l = (is_dropped d e p l, is_listed d e p l)
