-- Misfits that were put behind a step, and outcomes that were joined.
use Rattle.std.proofs.Common.{◌≡◌, ◌==◌, Bool, true, rules, ℕ, length, arith, List, [], ◌∷◌, ◌++◌, map, reverse, refl, sym, ap, ◌∙◌, append_assoc}
use Rattle.std.proofs.lemmas.List.{map-append, reverse-append}
use Rattle.utoipa_check.specs.Misfits as specs
use Rattle.utoipa_check.specs.Misfits.{under}
use Rattle.utoipa_check.specs.Places.{joined}
use Rattle.utoipa_check.specs.Views.{step_of, cause_of, outwards, misfit_of, misfits_of, outcome_of, stacked}
use Rattle.utoipa_check.specs.declared.misfit.Misfit.{Misfit}
use Rattle.utoipa_check.specs.declared.misfit.Outcome.{Outcome}
use Rattle.utoipa_check.specs.declared.misfit.Step.{Step}

pub misfits_of_join : (xs ys : List Misfit) → misfits_of (xs ++ ys) ≡ misfits_of xs ++ misfits_of ys
misfits_of_join [] ys = refl
misfits_of_join (x ∷ xs) ys = ap (λ ms. misfit_of x ∷ ms) (misfits_of_join xs ys)

under_join : (s : specs.Step) (xs ys : specs.Misfits) → under s (xs ++ ys) ≡ under s xs ++ under s ys
under_join s [] ys = refl
under_join s (x ∷ xs) ys = ap (λ ms. (s ∷ x.0, x.1) ∷ ms) (under_join s xs ys)

pub outwards_last : (xs : List Step) (s : Step) (rest : List specs.Step) → outwards (xs ++ s ∷ []) rest ≡ step_of s ∷ outwards xs rest
outwards_last [] s rest = refl
outwards_last (x ∷ xs) s rest = outwards_last xs s (step_of x ∷ rest)

-- one more misfit, with a step more
pub put_one : (xs ys start yielded : List Misfit) (m n : Misfit) (s : Step) → misfits_of xs ≡ misfits_of start ++ under (step_of s) (misfits_of yielded) → n.pointer.steps.items ≡ m.pointer.steps.items ++ s ∷ [] → n.cause ≡ m.cause → ys ≡ xs ++ n ∷ []
    → misfits_of ys ≡ misfits_of start ++ under (step_of s) (misfits_of (yielded ++ m ∷ []))
put_one xs ys start yielded m n s before stepped same pushed =
    let moved : misfit_of n ≡ (step_of s ∷ outwards m.pointer.steps.items [], cause_of m.cause) = ap (λ r. (outwards r [], cause_of n.cause)) stepped ∙ ap (λ c. (outwards (m.pointer.steps.items ++ s ∷ []) [], cause_of c)) same ∙ ap (λ r. (r, cause_of m.cause)) (outwards_last m.pointer.steps.items s []) in
    ap misfits_of pushed ∙ misfits_of_join xs (n ∷ []) ∙ ap (λ r. r ++ misfit_of n ∷ []) before ∙ append_assoc (misfits_of start) (under (step_of s) (misfits_of yielded)) (misfit_of n ∷ [])
    ∙ ap (λ r. misfits_of start ++ (under (step_of s) (misfits_of yielded) ++ r ∷ [])) moved
    ∙ ap (λ r. misfits_of start ++ r) (sym (ap (under (step_of s)) (misfits_of_join yielded (m ∷ [])) ∙ under_join (step_of s) (misfits_of yielded) (misfits_of (m ∷ []))))

-- an iterator with n items left, where n is 0
pub none_left : {X : Type 0} (xs : List X) (n : ℕ) → n ≡ length xs → n ≡ 0 → xs ≡ []
none_left [] n is none = refl
none_left (x ∷ xs) n is none = absurd (omega arith)

pub fit_by_length : (xs : List Misfit) (n : ℕ) (b : Bool) → b ≡ n == 0 → n ≡ length xs → b ≡ specs.is_fit (misfits_of xs)
fit_by_length [] n b e is = e ∙ ap (λ m. m == 0) is
fit_by_length (x ∷ xs) n b e is = e ∙ ap (λ m. m == 0) is ∙ search rules

-- no misfit, by the test
-- no misfit, by the list of the program
pub no_items : (xs : List Misfit) → misfits_of xs ≡ [] → xs ≡ []
no_items [] e = refl
no_items (x ∷ xs) e = cc

pub none_fit : (xs : specs.Misfits) → specs.is_fit xs ≡ true → xs ≡ []
none_fit [] e = refl
none_fit (x ∷ xs) e = cc

-- ---- outcomes

-- the last outcome is the first of the stack
pub stacked_last : (xs : List Outcome) (x : Outcome) → stacked (xs ++ x ∷ []) ≡ outcome_of x ∷ stacked xs
stacked_last xs x = ap reverse (map-append outcome_of xs (x ∷ [])) ∙ reverse-append (map outcome_of xs) (outcome_of x ∷ [])

pub joined_step : (left more : List Outcome) (o : Outcome) (found new : List Misfit) (all : specs.Misfits) → misfits_of found ++ joined (stacked left) ≡ all → left ≡ more ++ o ∷ []
    → misfits_of new ≡ misfits_of found ++ under (step_of o.step) (misfits_of o.misfits.items) → misfits_of new ++ joined (stacked more) ≡ all
joined_step left more o found new all so_far last put =
    ap (λ ms. ms ++ joined (stacked more)) put ∙ append_assoc (misfits_of found) (under (step_of o.step) (misfits_of o.misfits.items)) (joined (stacked more))
    ∙ ap (λ os. misfits_of found ++ joined os) (sym (ap stacked last ∙ stacked_last more o)) ∙ so_far
