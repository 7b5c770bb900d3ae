-- Texts that lack a front.
use Rattle.std.proofs.Common.{◌≡◌, ◌≢◌, ◌==◌, ◌++◌, ℕ, List, [], ◌∷◌, Bool, true, false, cond, Option, None, refl, ap, ◌∙◌}
use Rattle.std.proofs.lemmas.Bool.{eqb-true}
use Rattle.utoipa_base.specs.References.{behind}

none_by : {X : Type 0} (b : Bool) (o : Option X) → (b ≡ true → o ≡ None) → cond b o None ≡ None
none_by true o f = f refl
none_by false o f = refl

-- nothing stands behind a front that is not there
pub lacks : (front s : List ℕ) → ((rest : List ℕ) → s ≢ front ++ rest) → behind front s ≡ None
lacks [] s h = absurd (h s refl)
lacks (c ∷ cs) [] h = refl
lacks (c ∷ cs) (b ∷ bs) h = none_by (b == c) (behind cs bs) (λ e. lacks cs bs (λ rest is. h rest (ap (λ x. x ∷ bs) (eqb-true b c e) ∙ ap (λ ys. c ∷ ys) is)))
