-- Names of which something holds.
use Rattle.std.proofs.Common.{◌≡◌, ◌+◌, ◌<◌, ℕ, suc, List, [], ◌∷◌, ◌++◌, Bool, length, drop, drop-cons, get_or, refl, sym, ap, ◌∙◌, append_assoc, arith}
use Rattle.std.specs.Borrow.{Bor}
use Rattle.std.specs.List.{flat_map}
use Rattle.utoipa_outline.specs.Counted.{if_so}
use Rattle.utoipa_outline.specs.Views.{texts_of}

-- the same holds of each
pub same_names : (f g : List ℕ → Bool) (names : List (List ℕ)) → ((name : List ℕ) → f name ≡ g name) → flat_map (λ n. if_so (f n) n) names ≡ flat_map (λ n. if_so (g n) n) names
same_names f g [] same = refl
same_names f g (n ∷ ns) same = ap (λ b. if_so b n ++ flat_map (λ m. if_so (f m) m) ns) (same n) ∙ ap (λ ms. if_so (g n) n ++ ms) (same_names f g ns same)

-- one name more
pub name_more : (f : List ℕ → List (List ℕ)) (xs : List (Bor (List ℕ))) (i : ℕ) (d : Bor (List ℕ)) (old new all : List (List ℕ)) → old ++ flat_map f (texts_of (drop i xs)) ≡ all → i < length xs
    → new ≡ old ++ f (get_or xs i d).now → new ++ flat_map f (texts_of (drop (i + 1) xs)) ≡ all
name_more f xs i d old new all before less put =
    let x = get_or xs i d in
    let next : suc i ≡ i + 1 = omega arith in
    let first : drop i xs ≡ x ∷ drop (i + 1) xs = drop-cons xs i d less ∙ ap (λ n. x ∷ drop n xs) next in
    let rest = flat_map f (texts_of (drop (i + 1) xs)) in
    ap (λ s. s ++ rest) put ∙ append_assoc old (f x.now) rest ∙ sym (ap (λ ys. old ++ flat_map f (texts_of ys)) first) ∙ before
