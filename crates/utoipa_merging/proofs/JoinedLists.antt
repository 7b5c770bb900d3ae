-- Entries that are new to earlier ones, and lists that are joined.
use Rattle.std.proofs.Common.{◌≡◌, ◌⊎◌, inl, inr, zero, suc, List, [], ◌∷◌, ◌++◌, Contains, refl, sym, ap, ◌∙◌, subst, arith}
use Rattle.std.proofs.lemmas.List.{append-nil, append_assoc}
use Rattle.std.proofs.lemmas.List.Elements.{Contains-append_left, Contains-append_right, Contains-append_cases}
use Rattle.utoipa_merging.specs.Rules.{AreNew, AreJoined}

-- ---- elements

pub not_in_none : {A : Type 0} (x : A) → Contains [] x → ⊥
not_in_none x h = omega (arith, h.1)

one_cases : {A : Type 0} (y x : A) → Contains (y ∷ []) x → y ≡ x
one_cases y x (zero, below, is) = is
one_cases y x (suc k, below, is) = absurd (omega (arith, below))

pub in_head : {A : Type 0} (x : A) (xs : List A) → Contains (x ∷ xs) x
in_head x xs = (0, omega arith, refl)

pub in_tail : {A : Type 0} (y : A) (xs : List A) (x : A) → Contains xs x → Contains (y ∷ xs) x
in_tail y xs x h = Contains-append_right (y ∷ []) xs x h

pub in_cases : {A : Type 0} (y : A) (xs : List A) (x : A) → Contains (y ∷ xs) x → (y ≡ x) ⊎ Contains xs x
in_cases y xs x h = elim (Contains-append_cases (y ∷ []) xs x h) [ inl e ↦ inl (one_cases y x e) | inr e ↦ inr e ]

-- ---- entries that are new

-- an entry is an earlier one, or kept
pub kept_or_earlier : {A : Type 0} (earlier xs kept : List A) → AreNew earlier xs kept → (x : A) → Contains xs x → Contains earlier x ⊎ Contains kept x
kept_or_earlier earlier [] kept h x c = absurd (not_in_none x c)
kept_or_earlier earlier (y ∷ xs) kept (inl h) x c =
    elim (in_cases y xs x c) [ inl e ↦ inl (subst (Contains earlier) e h.0) | inr e ↦ kept_or_earlier earlier xs kept h.1 x e ]
kept_or_earlier earlier (y ∷ xs) kept (inr (more, new, is, h)) x c =
    let later : Contains xs x → Contains earlier x ⊎ Contains kept x =
    λ e. elim (kept_or_earlier earlier xs more h x e) [ inl i ↦ inl i | inr i ↦ inr (subst (λ l. Contains l x) (sym is) (in_tail y more x i)) ] in
    elim (in_cases y xs x c) [ inl e ↦ inr (subst (λ l. Contains l x) (sym is) (subst (Contains (y ∷ more)) e (in_head y more))) | inr e ↦ later e ]

-- what is kept is an entry
pub kept_is_entry : {A : Type 0} (earlier xs kept : List A) → AreNew earlier xs kept → (x : A) → Contains kept x → Contains xs x
kept_is_entry earlier [] kept h x c = absurd (not_in_none x (subst (λ l. Contains l x) h c))
kept_is_entry earlier (y ∷ xs) kept (inl h) x c = in_tail y xs x (kept_is_entry earlier xs kept h.1 x c)
kept_is_entry earlier (y ∷ xs) kept (inr (more, new, is, h)) x c =
    elim (in_cases y more x (subst (λ l. Contains l x) is c)) [ inl e ↦ subst (Contains (y ∷ xs)) e (in_head y xs) | inr e ↦ in_tail y xs x (kept_is_entry earlier xs more h x e) ]

pub new_unique : {A : Type 0} (earlier xs kept others : List A) → AreNew earlier xs kept → AreNew earlier xs others → kept ≡ others
new_unique earlier [] kept others h g = h ∙ sym g
new_unique earlier (x ∷ xs) kept others (inl h) (inl g) = new_unique earlier xs kept others h.1 g.1
new_unique earlier (x ∷ xs) kept others (inl h) (inr (more, new, is, g)) = absurd (new h.0)
new_unique earlier (x ∷ xs) kept others (inr (more, new, is, h)) (inl g) = absurd (new g.0)
new_unique earlier (x ∷ xs) kept others (inr (more, new, is, h)) (inr (more', new', is', g)) =
    is ∙ ap (λ l. x ∷ l) (new_unique earlier xs more more' h g) ∙ sym is'

-- without earlier entries all are kept
pub new_to_none : {A : Type 0} (xs : List A) → AreNew [] xs xs
new_to_none [] = refl
new_to_none (x ∷ xs) = inr (xs, not_in_none x, refl, new_to_none xs)

-- of earlier entries none is kept
pub none_new : {A : Type 0} (earlier xs : List A) → ((x : A) → Contains xs x → Contains earlier x) → AreNew earlier xs []
none_new earlier [] h = refl
none_new earlier (x ∷ xs) h = inl (h x (in_head x xs), none_new earlier xs (λ y c. h y (in_tail x xs y c)))

-- what is kept of two lists, one after the other
pub new_split : {A : Type 0} (earlier xs ys kept : List A) → AreNew earlier (xs ++ ys) kept
    → (first second : List A) × AreNew earlier xs first × AreNew earlier ys second × (kept ≡ first ++ second)
new_split earlier [] ys kept h = ([], kept, refl, h, refl)
new_split earlier (x ∷ xs) ys kept (inl h) =
    let r = new_split earlier xs ys kept h.1 in
    (r.0, r.1, inl (h.0, r.2), r.3, r.4)
new_split earlier (x ∷ xs) ys kept (inr (more, new, is, h)) =
    let r = new_split earlier xs ys more h in
    (x ∷ r.0, r.1, inr (r.0, new, refl, r.2), r.3, is ∙ ap (λ l. x ∷ l) r.4)

-- ---- entries that are new to two lists of earlier ones

-- these are the elements of both
abbrev pub AreBoth : {A : Type 0} → (all first second : List A) → Type 0
AreBoth {A} all first second = ((x : A) → Contains all x → Contains first x ⊎ Contains second x) × ((x : A) → Contains first x ⊎ Contains second x → Contains all x)

pub new_twice : {A : Type 0} (first second all xs kept fewer : List A) → AreBoth all first second → AreNew first xs kept → AreNew second kept fewer → AreNew all xs fewer
new_twice first second all [] kept fewer both h g = subst (λ l. AreNew second l fewer) h g
new_twice first second all (x ∷ xs) kept fewer both (inl h) g = inl (both.1 x (inl h.0), new_twice first second all xs kept fewer both h.1 g)
new_twice first second all (x ∷ xs) kept fewer both (inr (more, new, is, h)) g =
    elim (subst (λ l. AreNew second l fewer) is g) [
      | inl i ↦ inl (both.1 x (inr i.0), new_twice first second all xs more fewer both h i.1)
      | inr i ↦ inr (i.0, (λ c. elim (both.0 x c) [ inl e ↦ new e | inr e ↦ i.1 e ]), i.2, new_twice first second all xs more i.0 both h i.3)
    ]

-- ---- joined lists

abbrev pub all_in : {A : Type 0} → List (List A) → List A
all_in [] = []
all_in (l ∷ ls) = l ++ all_in ls

pub joined_unique : {A : Type 0} (earlier : List A) (ls : List (List A)) (js ks : List A) → AreJoined earlier ls js → AreJoined earlier ls ks → js ≡ ks
joined_unique earlier [] js ks h g = h ∙ sym g
joined_unique earlier (l ∷ ls) js ks (kept, more, h, i, is) (kept', more', h', i', is') =
    is ∙ ap (λ k. k ++ more) (new_unique earlier l kept kept' h h') ∙ ap (λ m. kept' ++ m) (joined_unique (earlier ++ l) ls more more' i i') ∙ sym is'

-- an entry is an earlier one, or joined
pub joined_or_earlier : {A : Type 0} (earlier : List A) (ls : List (List A)) (js : List A) → AreJoined earlier ls js → (x : A) → Contains (all_in ls) x → Contains earlier x ⊎ Contains js x
joined_or_earlier earlier [] js h x c = absurd (not_in_none x c)
joined_or_earlier {A} earlier (l ∷ ls) js (kept, more, h, i, is) x c =
    elim (Contains-append_cases l (all_in ls) x c) [ inl e ↦ here e | inr e ↦ there (joined_or_earlier (earlier ++ l) ls more i x e) ]
  where
    joins : Contains kept x ⊎ Contains more x → Contains js x
    joins (inl e) = subst (λ k. Contains k x) (sym is) (Contains-append_left kept more x e)
    joins (inr e) = subst (λ k. Contains k x) (sym is) (Contains-append_right kept more x e)

    here : Contains l x → Contains earlier x ⊎ Contains js x
    here e = elim (kept_or_earlier earlier l kept h x e) [ inl f ↦ inl f | inr f ↦ inr (joins (inl f)) ]

    there : Contains (earlier ++ l) x ⊎ Contains more x → Contains earlier x ⊎ Contains js x
    there (inl e) = elim (Contains-append_cases earlier l x e) [ inl f ↦ inl f | inr f ↦ here f ]
    there (inr e) = inr (joins (inr e))

-- what is joined is an entry
pub joined_is_entry : {A : Type 0} (earlier : List A) (ls : List (List A)) (js : List A) → AreJoined earlier ls js → (x : A) → Contains js x → Contains (all_in ls) x
joined_is_entry earlier [] js h x c = subst (λ l. Contains l x) h c
joined_is_entry earlier (l ∷ ls) js (kept, more, h, i, is) x c =
    elim (Contains-append_cases kept more x (subst (λ k. Contains k x) is c)) [
      | inl e ↦ Contains-append_left l (all_in ls) x (kept_is_entry earlier l kept h x e)
      | inr e ↦ Contains-append_right l (all_in ls) x (joined_is_entry (earlier ++ l) ls more i x e)
    ]

-- lists, and then others
pub joined_append : {A : Type 0} (earlier : List A) (ls ms : List (List A)) (js ks : List A) → AreJoined earlier ls js → AreJoined (earlier ++ all_in ls) ms ks → AreJoined earlier (ls ++ ms) (js ++ ks)
joined_append earlier [] ms js ks h g = subst (λ j. AreJoined earlier ms (j ++ ks)) (sym h) (subst (λ e. AreJoined e ms ks) (append-nil earlier) g)
joined_append earlier (l ∷ ls) ms js ks (kept, more, h, i, is) g = (
  kept,
  more ++ ks,
  h,
  joined_append (earlier ++ l) ls ms more ks i (subst (λ e. AreJoined e ms ks) (sym (append_assoc earlier l (all_in ls))) g),
  ap (λ j. j ++ ks) is ∙ append_assoc kept more ks,
)

-- what a list adds to both
both_more : {A : Type 0} (all first second l : List A) → AreBoth all first second → AreBoth (all ++ l) (first ++ l) second
both_more {A} all first second l both = (forward, backward)
  where
    forward : (x : A) → Contains (all ++ l) x → Contains (first ++ l) x ⊎ Contains second x
    forward x c =
        elim (Contains-append_cases all l x c) [
          | inl e ↦ elim (both.0 x e) [ inl f ↦ inl (Contains-append_left first l x f) | inr f ↦ inr f ]
          | inr e ↦ inl (Contains-append_right first l x e)
        ]

    backward : (x : A) → Contains (first ++ l) x ⊎ Contains second x → Contains (all ++ l) x
    backward x (inl e) =
        elim (Contains-append_cases first l x e) [
          | inl f ↦ Contains-append_left all l x (both.1 x (inl f))
          | inr f ↦ Contains-append_right all l x f
        ]
    backward x (inr e) = Contains-append_left all l x (both.1 x (inr e))

-- what is new of joined lists is those lists joined behind more entries
pub joined_twice : {A : Type 0} (first second all : List A) (ls : List (List A)) (js fewer : List A) → AreBoth all first second → AreJoined first ls js → AreNew second js fewer → AreJoined all ls fewer
joined_twice first second all [] js fewer both h g = subst (λ l. AreNew second l fewer) h g
joined_twice first second all (l ∷ ls) js fewer both (kept, more, h, i, is) g =
    let r = new_split second kept more fewer (subst (λ k. AreNew second k fewer) is g) in (
      r.0,
      r.1,
      new_twice first second all l kept r.0 both h r.2,
      joined_twice (first ++ l) second (all ++ l) ls more r.1 (both_more all first second l both) i r.3,
      r.4,
    )

-- joining what was joined joins all
pub joined_composes : {A : Type 0} (ls ms : List (List A)) (a b d : List A) → AreJoined [] ls a → AreJoined [] ms b → AreJoined [] (a ∷ b ∷ []) d → AreJoined [] (ls ++ ms) d
joined_composes {A} ls ms a b d h g (a', more, i, (b', none, j, empty, is'), is) =
    subst (AreJoined [] (ls ++ ms)) (sym whole) (joined_append [] ls ms a b' h (joined_twice [] a (all_in ls) ms b b' both g j))
  where
    both : AreBoth (all_in ls) [] a
    both = (joined_or_earlier [] ls a h, λ x c. elim c [ inl e ↦ absurd (not_in_none x e) | inr e ↦ joined_is_entry [] ls a h x e ])

    whole : d ≡ a ++ b'
    whole = is ∙ ap (λ k. k ++ more) (new_unique [] a a' a i (new_to_none a)) ∙ ap (λ k. a ++ k) (is' ∙ ap (λ k. b' ++ k) empty ∙ append-nil b')

pub joined_one : {A : Type 0} (xs : List A) → AreJoined [] (xs ∷ []) xs
joined_one xs = (xs, [], new_to_none xs, refl, sym (append-nil xs))

-- a list and its copy
pub joined_copy : {A : Type 0} (xs : List A) → AreJoined [] (xs ∷ xs ∷ []) xs
joined_copy xs = (xs, [], new_to_none xs, ([], [], none_new xs xs (λ x c. c), refl, refl), sym (append-nil xs))

-- a list and an empty one
pub joined_empty : {A : Type 0} (xs : List A) → AreJoined [] (xs ∷ [] ∷ []) xs
joined_empty xs = (xs, [], new_to_none xs, ([], [], refl, refl, refl), sym (append-nil xs))
