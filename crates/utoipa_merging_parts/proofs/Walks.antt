-- A list that is walked from its front, by the documents of its items.
use Rattle.std.proofs.Common.{◌≡◌, inl, inr, ℕ, ◌+◌, ◌<◌, List, [], ◌∷◌, ◌++◌, length, get_or, take, drop, map, Bool, false, IsTrue, ◌↔◌, true≢false, All, Contains, refl, sym, ap, ◌∙◌, subst, arith}
use Rattle.std.proofs.lemmas.List.{append-nil, append_assoc, map-append, take-append-drop, take_more}
use Rattle.std.proofs.lemmas.List.Elements.{Contains-push_cases, Contains-append_right, All-head, All-same}
use Rattle.utoipa_base.proofs.ByKind.{drop_item}
use Rattle.utoipa_merging.specs.Rules.{AreNew}
use Rattle.utoipa_merging.proofs.JoinedLists.{in_head}

-- one more item
pub take_item : {X Y : Type 0} (f : X → Y) (xs : List X) (i : ℕ) (x : X) → i < length xs → x ≡ get_or xs i x → map f (take (i + 1) xs) ≡ map f (take i xs) ++ f x ∷ []
take_item f xs i x within is = ap (map f) (take_more xs i x within) ∙ map-append f (take i xs) (get_or xs i x ∷ []) ∙ ap (λ y. map f (take i xs) ++ f y ∷ []) (sym is)

-- an item that was met is an element
pub met : {X Y : Type 0} (f : X → Y) (xs : List X) (i : ℕ) (x : X) (y : Y) → i < length xs → x ≡ get_or xs i x → f x ≡ y → Contains (map f xs) y
met f xs i x y within is same =
    let split : map f xs ≡ map f (take i xs) ++ (f x ∷ map f (drop (i + 1) xs)) =
    ap (map f) (sym (take-append-drop i xs)) ∙ map-append f (take i xs) (drop i xs) ∙ ap (λ l. map f (take i xs) ++ map f l) (drop_item xs i x within is) in
    subst (λ l. Contains l y) (sym split) (Contains-append_right (map f (take i xs)) (f x ∷ map f (drop (i + 1) xs)) y (subst (Contains (f x ∷ map f (drop (i + 1) xs))) same (in_head (f x) (map f (drop (i + 1) xs)))))

-- an item that is not the one looked for
pub passed : {X Y : Type 0} (f : X → Y) (xs : List X) (i : ℕ) (x : X) (y : Y) (b : Bool) → i < length xs → x ≡ get_or xs i x → (IsTrue b ↔ (f x ≡ y)) → b ≡ false → (Contains (map f (take i xs)) y → ⊥)
    → Contains (map f (take (i + 1) xs)) y → ⊥
passed f xs i x y b within is same unlike before h =
    elim (Contains-push_cases (map f (take i xs)) (f x) y (subst (λ l. Contains l y) (take_item f xs i x within is) h))
    [ inl e ↦ before e | inr e ↦ true≢false (sym (same.1 e) ∙ unlike) ]

-- ---- what is kept, before the entries that are still to come

-- whatever is kept of the entries to come, it is kept behind what has been kept
abbrev pub KeptSoFar : {A : Type 0} → (earlier all kept rest : List A) → Type 0
KeptSoFar {A} earlier all kept rest = (more : List A) → AreNew earlier rest more → AreNew earlier all (kept ++ more)

pub kept_none : {A : Type 0} (earlier all rest : List A) → all ≡ rest → KeptSoFar earlier all [] rest
kept_none earlier all rest is = λ more h. subst (λ l. AreNew earlier l more) (sym is) h

-- an entry that no earlier one equals
pub kept_new : {A : Type 0} (earlier all kept rest later : List A) (x : A) → KeptSoFar earlier all kept rest → rest ≡ x ∷ later → (Contains earlier x → ⊥) → KeptSoFar earlier all (kept ++ x ∷ []) later
kept_new earlier all kept rest later x before is new =
    λ more h. rw (append_assoc kept (x ∷ []) more) (before (x ∷ more) (subst (λ l. AreNew earlier l (x ∷ more)) (sym is) (inr (more, new, refl, h))))

-- an entry that an earlier one equals
pub kept_known : {A : Type 0} (earlier all kept rest later : List A) (x : A) → KeptSoFar earlier all kept rest → rest ≡ x ∷ later → Contains earlier x → KeptSoFar earlier all kept later
kept_known earlier all kept rest later x before is known = λ more h. before more (subst (λ l. AreNew earlier l more) (sym is) (inl (known, h)))

pub kept_all : {A : Type 0} (earlier all kept rest : List A) → KeptSoFar earlier all kept rest → rest ≡ [] → AreNew earlier all kept
kept_all earlier all kept rest before is = rw (append-nil kept) at (before [] (subst (λ l. AreNew earlier l []) (sym is) refl))

pub not_if_false : {P : Type 0} (b : Bool) → (IsTrue b ↔ P) → b ≡ false → P → ⊥
not_if_false b same unlike h = true≢false (sym (same.1 h) ∙ unlike)

pub All-first : {X : Type 0} (P : X → Type 0) (x : X) (xs ys : List X) → ys ≡ x ∷ xs → All P ys → P x
All-first P x xs ys is h = All-head P x xs (All-same P (x ∷ xs) ys (sym is) h)

pub no_items : {X : Type 0} (xs : List X) (n : ℕ) → n ≡ length xs → n ≡ 0 → xs ≡ []
no_items [] n is none = refl
no_items (x ∷ xs) n is none = absurd (omega arith)

-- ---- what is made of each item, before what is still to be made of the rest

pub made_step : {X Y : Type 0} (f : X → Y) (rest later : List X) (x : X) (made new all : List Y) → made ++ map f rest ≡ all → rest ≡ x ∷ later → new ≡ made ++ f x ∷ [] → new ++ map f later ≡ all
made_step f rest later x made new all before first is =
    ap (λ m. m ++ map f later) is ∙ append_assoc made (f x ∷ []) (map f later) ∙ ap (λ r. made ++ map f r) (sym first) ∙ before

pub made_all : {X Y : Type 0} (f : X → Y) (rest : List X) (made all : List Y) → made ++ map f rest ≡ all → rest ≡ [] → made ≡ all
made_all f rest made all before none = sym (append-nil made) ∙ ap (λ r. made ++ map f r) (sym none) ∙ before
