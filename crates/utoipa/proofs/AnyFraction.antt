-- Whether one of the documents has a fraction in a list, in a loop over them.
use Rattle.std.proofs.Common.{◌≡◌, ℕ, ◌+◌, ◌<◌, ◌≤◌, List, [], ◌∷◌, Bool, true, false, ◌||◌, get_or, length, take, map, refl, sym, ap, ◌∙◌}
use Rattle.std.specs.List.{list_any}
use Rattle.std.proofs.lemmas.List.{take_all}
use Rattle.std.proofs.lemmas.List.Folds.{list_any_more, list_any_at}

any_of_map : {X Y : Type 0} (q : Y → Bool) (f : X → Y) (xs : List X) → list_any q (map f xs) ≡ list_any (λ x. q (f x)) xs
any_of_map q f [] = refl
any_of_map q f (x ∷ xs) = ap (λ b. q (f x) || b) (any_of_map q f xs)

-- one was found
pub any_found : {X Y : Type 0} (q : Y → Bool) (f : X → Y) (xs : List X) (i : ℕ) (x : X) → i < length xs → x ≡ get_or xs i x → q (f x) ≡ true → true ≡ list_any q (map f xs)
any_found q f xs i x within is h = sym (any_of_map q f xs ∙ list_any_at (λ y. q (f y)) xs i x within (ap (λ y. q (f y)) (sym is) ∙ h))

-- none was found so far
pub none_more : {X Y : Type 0} (q : Y → Bool) (f : X → Y) (xs : List X) (i : ℕ) (x : X) → i < length xs → x ≡ get_or xs i x → q (f x) ≡ false → list_any (λ y. q (f y)) (take i xs) ≡ false → list_any (λ y. q (f y)) (take (i + 1) xs) ≡ false
none_more q f xs i x within is h before =
    list_any_more (λ y. q (f y)) xs i x within ∙ ap (λ b. b || q (f (get_or xs i x))) before ∙ ap (λ y. q (f y)) (sym is) ∙ h

-- none was found
pub none_found : {X Y : Type 0} (q : Y → Bool) (f : X → Y) (xs : List X) (i : ℕ) → length xs ≤ i → list_any (λ y. q (f y)) (take i xs) ≡ false → false ≡ list_any q (map f xs)
none_found q f xs i past before = sym (any_of_map q f xs ∙ ap (list_any (λ y. q (f y))) (sym (take_all i xs past)) ∙ before)
