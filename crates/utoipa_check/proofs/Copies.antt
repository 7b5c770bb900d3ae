-- Misfits once more.
use Rattle.std.proofs.Common.{◌≡◌, ℕ, ◌+◌, ◌<◌, List, [], ◌∷◌, ◌++◌, length, map, drop, drop-cons, add-one, get_or, sym, ap, ◌∙◌, append_assoc, subst}
use Rattle.std.proofs.lemmas.List.{map-append}
use Rattle.utoipa_check.specs.Misfits as specs
use Rattle.utoipa_check.specs.Places as places
use Rattle.utoipa_check.specs.Views.{cause_of, outwards, misfit_of, misfits_of, outcome_of}
use Rattle.utoipa_check.specs.declared.misfit.Misfit.{Misfit}
use Rattle.utoipa_check.specs.declared.misfit.Outcome.{Outcome}
use Rattle.utoipa_check.proofs.Steps.{misfits_of_join}

-- the item at an index, and those after it
item_at : {X : Type 0} (xs : List X) (i : ℕ) (x : X) → i < length xs → drop i xs ≡ get_or xs i x ∷ drop (i + 1) xs
item_at xs i x within = rw add-one (drop-cons xs i x within)

pub misfit_copied : (ms items found new : List Misfit) (i : ℕ) (m n : Misfit) (all : specs.Misfits) → misfits_of found ++ misfits_of (drop i ms) ≡ all → items ≡ ms → i < length items → m ≡ get_or items i m → n.pointer.steps.items ≡ m.pointer.steps.items → n.cause ≡ m.cause → new ≡ found ++ n ∷ []
    → misfits_of new ++ misfits_of (drop (i + 1) ms) ≡ all
misfit_copied ms items found new i m n all so_far same within is steps cause put =
    let rest = misfits_of (drop (i + 1) ms) in
    let first : misfit_of n ≡ misfit_of (get_or ms i m) = ap (λ ss. (outwards ss [], cause_of n.cause)) steps ∙ ap (λ c. (outwards m.pointer.steps.items [], cause_of c)) cause ∙ ap misfit_of (is ∙ ap (λ xs. get_or xs i m) same) in
    let inside : i < length ms = subst (λ xs. i < length xs) same within in
    ap (λ xs. misfits_of xs ++ rest) put ∙ ap (λ xs. xs ++ rest) (misfits_of_join found (n ∷ [])) ∙ append_assoc (misfits_of found) (misfit_of n ∷ []) rest
    ∙ ap (λ x. misfits_of found ++ x ∷ rest) first ∙ ap (λ xs. misfits_of found ++ misfits_of xs) (sym (item_at ms i m inside)) ∙ so_far

pub outcome_copied : (os found new : List Outcome) (i : ℕ) (o n : Outcome) (all : List places.Outcome) → map outcome_of found ++ map outcome_of (drop i os) ≡ all → i < length os → o ≡ get_or os i o → outcome_of n ≡ outcome_of o → new ≡ found ++ n ∷ []
    → map outcome_of new ++ map outcome_of (drop (i + 1) os) ≡ all
outcome_copied os found new i o n all so_far within is same put =
    let rest = map outcome_of (drop (i + 1) os) in
    ap (λ xs. map outcome_of xs ++ rest) put ∙ ap (λ xs. xs ++ rest) (map-append outcome_of found (n ∷ [])) ∙ append_assoc (map outcome_of found) (outcome_of n ∷ []) rest
    ∙ ap (λ x. map outcome_of found ++ x ∷ rest) (same ∙ ap outcome_of is) ∙ ap (λ xs. map outcome_of found ++ map outcome_of xs) (sym (item_at os i o within)) ∙ so_far
