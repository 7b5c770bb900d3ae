-- Which values count as empty.
use Rattle.std.proofs.Common.{◌≡◌, ℕ, List, [], ◌∷◌, Bool, true, false, map, length, String, Global, refl, arith, ◌↔◌, IsTrue, ◌==◌, suc, ap, ◌∙◌}
use Rattle.std.proofs.lemmas.Bool.Decides.{nat_tests}
use Rattle.utoipa_base.specs.Docs.{Doc, docs_of, entries_of_list}
use Rattle.utoipa_base.specs.Views.{pairs_of}
use Rattle.utoipa_base.specs.Version.{is_empty_text}
use Rattle.utoipa_base.specs.Writing.{is_empty_docs, is_empty_entries}

pub is_empty_text-length : (s : List ℕ) → length s ≡ 0 → is_empty_text s ≡ true
is_empty_text-length [] h = refl
is_empty_text-length (x ∷ xs) h = absurd (omega arith)

pub is_empty_text-some : (s : List ℕ) → (length s ≡ 0 → ⊥) → is_empty_text s ≡ false
is_empty_text-some [] h = absurd (h refl)
is_empty_text-some (x ∷ xs) h = refl

not_zero : (n : ℕ) → (suc n == 0) ≡ false
not_zero n = grind (arith, nat_tests)

pub vacant_entries : {X : Type 0} (f : X → Doc) (b : Bool) (es : List (String Global × X)) → (IsTrue b ↔ (length es ≡ 0)) → b ≡ is_empty_entries (entries_of_list (pairs_of f es))
vacant_entries f true [] h = refl
vacant_entries f false [] h = h.1 refl
vacant_entries f true (x ∷ xs) h = absurd (omega (arith, h.0 refl))
vacant_entries f false (x ∷ xs) h = refl

pub vacant_slice : {X : Type 0} (f : X → Doc) (b : Bool) (ys xs : List X) → ys ≡ xs → b ≡ (length ys == 0) → b ≡ is_empty_docs (docs_of (map f xs))
vacant_slice f b ys [] same h = h ∙ ap (λ zs. length zs == 0) same
vacant_slice f b ys (x ∷ xs) same h = h ∙ ap (λ zs. length zs == 0) same ∙ not_zero (length xs)

pub ruleset empties = (is_empty_text-length, is_empty_text-some)
