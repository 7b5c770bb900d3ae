-- What a report says of a tree.
use Rattle.std.proofs.Common.{◌≡◌, ◌↔◌, List, [], ◌∷◌, ◌++◌, cond, Bool, true, false, not, ◌&&◌, Option, Some, None, is_some, refl, sym, ap, ◌∙◌, true≢false}
use Rattle.std.proofs.lemmas.List.{append-nil}
use Rattle.serde_json.specs.Data.{Data}
use Rattle.serde_json.specs.Written.{has_float}
use Rattle.utoipa_base.specs.Docs.{Doc}
use Rattle.utoipa_base.specs.Kinds.{Kind}
use Rattle.utoipa_base.specs.Reading.{read}
use Rattle.utoipa_base.specs.WellFormed.{ReadsAs}
use Rattle.utoipa_check.specs.Misfits as specs
use Rattle.utoipa_check.specs.Misfits.{is_fit, misfits, fractions, is_fraction, without_fractions, misfits_and_fractions}
use Rattle.utoipa_check.specs.Views.{cause_of, misfit_of, misfits_of}
use Rattle.utoipa_check.specs.declared.misfit.Misfit.{Misfit}
use Rattle.utoipa_check.proofs.Exact.{fractions_exact}
use Rattle.utoipa_check.proofs.Sound.{plain_kept, misfits_and_fractions_exact}
use Rattle.utoipa_check.proofs.Steps.{misfits_of_join, no_items, none_fit}

without_by : (b : Bool) (x : specs.Misfit) (xs ys zs : specs.Misfits) → zs ≡ xs ++ ys → cond b zs (x ∷ zs) ≡ cond b xs (x ∷ xs) ++ ys
without_by true x xs ys zs e = e
without_by false x xs ys zs e = ap (λ l. x ∷ l) e

without_join : (xs ys : specs.Misfits) → without_fractions (xs ++ ys) ≡ without_fractions xs ++ without_fractions ys
without_join [] ys = refl
without_join (x ∷ xs) ys = without_by (is_fraction x.1) x (without_fractions xs) (without_fractions ys) (without_fractions (xs ++ ys)) (without_join xs ys)

pub with_fractions : (k : Kind) (d : Data) (ms os fs all : List Misfit) → misfits_of ms ≡ misfits k d → misfits_of os ≡ without_fractions (misfits_of ms) → misfits_of fs ≡ fractions d → all ≡ os ++ fs → misfits_of all ≡ misfits_and_fractions k d
with_fractions k d ms os fs all found others more put =
    ap misfits_of put ∙ misfits_of_join os fs ∙ ap (λ xs. xs ++ misfits_of fs) (others ∙ ap without_fractions found) ∙ ap (λ xs. without_fractions (misfits k d) ++ xs) more

pub plain_found : (k : Kind) (d : Data) (ms : List Misfit) → misfits_of ms ≡ misfits k d → has_float d ≡ false → misfits_of ms ≡ misfits_and_fractions k d
plain_found k d ms found plain =
    let none : fractions d ≡ [] = none_fit (fractions d) (fractions_exact d ∙ ap not plain) in
    found ∙ sym (plain_kept k d plain) ∙ sym (append-nil (without_fractions (misfits k d))) ∙ ap (λ xs. without_fractions (misfits k d) ++ xs) (sym none)

-- a misfit more, which is a fraction or none
pub one_other : (xs ys : List Misfit) (m : Misfit) (b : Bool) → misfits_of ys ≡ without_fractions (misfits_of xs) → is_fraction (cause_of m.cause) ≡ b → without_fractions (misfits_of (xs ++ m ∷ [])) ≡ misfits_of ys ++ cond b [] (misfit_of m ∷ [])
one_other xs ys m b put is =
    ap without_fractions (misfits_of_join xs (m ∷ [])) ∙ without_join (misfits_of xs) (misfits_of (m ∷ [])) ∙ ap (λ l. l ++ without_fractions (misfits_of (m ∷ []))) (sym put) ∙ ap (λ c. misfits_of ys ++ cond c [] (misfit_of m ∷ [])) is

document_there : (o : Option Doc) (b : Bool) → is_some o && not b ≡ true → (b ≡ false) × ((doc : Doc) × (o ≡ Some doc))
document_there None b e = absurd (true≢false (sym e))
document_there (Some doc) true e = absurd (true≢false (sym e))
document_there (Some doc) false e = (refl, (doc, refl))

reads_from : (k : Kind) (d : Data) → is_some (read k d) && not (has_float d) ≡ true → (doc : Doc) × ReadsAs k d doc
reads_from k d e =
    let h = document_there (read k d) (has_float d) e in
    (h.1.0, (h.0, h.1.1))

-- no misfit is there exactly where the tree reads as a document
pub empty_exactly : (k : Kind) (d : Data) (all : List Misfit) → misfits_of all ≡ misfits_and_fractions k d → (all ≡ []) ↔ ((doc : Doc) × ReadsAs k d doc)
empty_exactly k d all found =
    let exact = ap is_fit found ∙ misfits_and_fractions_exact k d in (
      λ none. reads_from k d (sym exact ∙ ap (λ xs. is_fit (misfits_of xs)) none),
      λ reads. no_items all (none_fit (misfits_of all) (exact ∙ ap (λ o. is_some o && not (has_float d)) reads.1.1 ∙ ap (λ b. not b) reads.1.0)),
    )
