-- The text of a pointer, step by step.
use Rattle.std.proofs.Common.{◌≡◌, ℕ, suc, ◌-◌, ◌<◌, ◌≤◌, List, [], ◌∷◌, ◌++◌, length, map, drop, drop-cons, get_or, refl, sym, ap, ◌∙◌, arith, append_assoc}
use Rattle.std.proofs.lemmas.List.{append-nil}
use Rattle.utoipa_check.specs.Misfits as specs
use Rattle.utoipa_check.specs.Pointers.{step_text, pointer_text, shown_pointer}
use Rattle.utoipa_check.specs.Shown.{shown}
use Rattle.utoipa_check.specs.Views.{step_of, outwards}
use Rattle.utoipa_check.specs.declared.misfit.Step.{Step}

outwards_join : (xs : List Step) (rest : List specs.Step) → outwards xs rest ≡ outwards xs [] ++ rest
outwards_join [] rest = refl
outwards_join (x ∷ xs) rest = outwards_join xs (step_of x ∷ rest) ∙ sym (append_assoc (outwards xs []) (step_of x ∷ []) rest) ∙ ap (λ ss. ss ++ rest) (sym (outwards_join xs (step_of x ∷ [])))

text_join : (ss ts : List specs.Step) → pointer_text (ss ++ ts) ≡ pointer_text ss ++ pointer_text ts
text_join [] ts = refl
text_join (s ∷ ss) ts = ap (λ xs. (47 ∷ step_text s) ++ xs) (text_join ss ts) ∙ sym (append_assoc (47 ∷ step_text s) (pointer_text ss) (pointer_text ts))

-- one step more, of a text that is made step by step
more_of : (text : List specs.Step → List ℕ) (piece : specs.Step → List ℕ) → ((ss ts : List specs.Step) → text (ss ++ ts) ≡ text ss ++ text ts) → ((s : specs.Step) → text (s ∷ []) ≡ piece s)
    → (xs : List Step) (n : ℕ) (x : Step) → 0 < n → n ≤ length xs → x ≡ get_or xs (n - 1) x → text (outwards (drop n xs) []) ++ piece (step_of x) ≡ text (outwards (drop (n - 1) xs) [])
more_of text piece joins single xs n x some within is =
    let next : suc (n - 1) ≡ n = omega arith in
    let less : n - 1 < length xs = omega arith in
    let first : drop (n - 1) xs ≡ x ∷ drop n xs = drop-cons xs (n - 1) x less ∙ ap (λ m. get_or xs (n - 1) x ∷ drop m xs) next ∙ ap (λ y. y ∷ drop n xs) (sym is) in
    sym (
    ap (λ ys. text (outwards ys [])) first ∙ ap text (outwards_join (drop n xs) (step_of x ∷ [])) ∙ joins (outwards (drop n xs) []) (step_of x ∷ [])
    ∙ ap (λ t. text (outwards (drop n xs) []) ++ t) (single (step_of x))
    )

pub text_more : (xs : List Step) (n : ℕ) (x : Step) → 0 < n → n ≤ length xs → x ≡ get_or xs (n - 1) x → pointer_text (outwards (drop n xs) []) ++ (47 ∷ step_text (step_of x)) ≡ pointer_text (outwards (drop (n - 1) xs) [])
text_more = more_of pointer_text (λ s. 47 ∷ step_text s) text_join (λ s. append-nil (47 ∷ step_text s))

shown_join : (ss ts : List specs.Step) → shown_pointer (ss ++ ts) ≡ shown_pointer ss ++ shown_pointer ts
shown_join [] ts = refl
shown_join (s ∷ ss) ts = ap (λ xs. (47 ∷ shown (step_text s)) ++ xs) (shown_join ss ts) ∙ sym (append_assoc (47 ∷ shown (step_text s)) (shown_pointer ss) (shown_pointer ts))

pub shown_more : (xs : List Step) (n : ℕ) (x : Step) → 0 < n → n ≤ length xs → x ≡ get_or xs (n - 1) x
    → shown_pointer (outwards (drop n xs) []) ++ (47 ∷ shown (step_text (step_of x))) ≡ shown_pointer (outwards (drop (n - 1) xs) [])
shown_more = more_of shown_pointer (λ s. 47 ∷ shown (step_text s)) shown_join (λ s. append-nil (47 ∷ shown (step_text s)))

-- every item as it is
pub same_items : (xs : List ℕ) → map (λ x. x) xs ≡ xs
same_items [] = refl
same_items (x ∷ xs) = ap (λ ys. x ∷ ys) (same_items xs)
