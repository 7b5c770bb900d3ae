-- How many items an iterator has, by what its first three calls of `next` give.
use Rattle.std.proofs.Common.{◌≡◌, ◌≢◌, ◌∷◌, ◌∙◌, ℕ, List, [], Option, None, length, ap, arith}
use Rattle.std.specs.Option.{MatchOption}
use Rattle.std.proofs.lemmas.Option.{MatchOption-at_none}
use Rattle.utoipa_merging.proofs.ItemWalks.{none_left}

-- an iterator that gives no item has none left
pub none_to_give : {X : Type 0} (P : Type 0) (Q : X → Type 0) (o : Option X) (xs : List X) (n : ℕ) → n ≡ length xs → MatchOption o (n ≡ 0 × P) Q
    → o ≡ None → xs ≡ []
none_to_give P Q o xs n is told e = none_left xs n is (MatchOption-at_none _ _ e told).0

-- a list of another length than two has no first item, or no second, or a third
pub no_first : {X : Type 0} (xs ys : List X) → xs ≡ ys → ys ≡ [] → length xs ≢ 2
no_first xs ys is none two = absurd (omega (arith, ap length (is ∙ none)))

pub no_second : {X : Type 0} (xs ys zs : List X) (x : X) → xs ≡ ys → ys ≡ x ∷ zs → zs ≡ [] → length xs ≢ 2
no_second xs ys zs x is first none two = absurd (omega (arith, ap length (is ∙ first ∙ ap (λ rest. x ∷ rest) none)))

pub has_third : {X : Type 0} (xs ys zs us vs : List X) (x y z : X) → xs ≡ ys → ys ≡ x ∷ zs → zs ≡ y ∷ us → us ≡ z ∷ vs → length xs ≢ 2
has_third xs ys zs us vs x y z is first second third two =
    absurd (omega (arith, ap length (is ∙ first ∙ ap (λ rest. x ∷ rest) (second ∙ ap (λ rest. y ∷ rest) third))))
