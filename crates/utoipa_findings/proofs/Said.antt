-- What is said of a place and of a text.
use Rattle.std.proofs.Common.{◌≡◌, ◌==◌, ◌+◌, ◌<◌, ℕ, suc, List, [], ◌∷◌, ◌++◌, Bool, true, false, if◌then◌else◌, length, map, drop, drop-cons, get_or, codes, refl, sym, ap, ◌∙◌, append_assoc, true≢false, arith}
use Rattle.std.specs.List.{flat_map}
use Rattle.std.specs.Str.{IsUtf8, is_utf8}
use Rattle.std.proofs.lemmas.Str.{IsUtf8-from_is_utf8}
use Rattle.utoipa_check.specs.Misfits as specs
use Rattle.utoipa_check.specs.Pointers.{shown_pointer}
use Rattle.utoipa_check.specs.Views.{step_of, outwards}
use Rattle.utoipa_check.specs.declared.misfit.Step.{Step}
use Rattle.utoipa_findings.specs.Lines.{place_text}
use Rattle.utoipa_findings.specs.Sources.{no_json, no_tree}

-- ---- places

place_behind : (xs : List Step) (s : specs.Step) (ss : List specs.Step) (said : List ℕ)
    → shown_pointer (outwards xs (s ∷ ss)) ++ (codes ": " ++ said) ≡ place_text (outwards xs (s ∷ ss)) ++ said
place_behind [] s ss said = sym (append_assoc (shown_pointer (s ∷ ss)) (codes ": ") said)
place_behind (x ∷ xs) s ss said = place_behind xs (step_of x) (s ∷ ss) said

-- a place that is not the root
pub some_place : (xs : List Step) (n : ℕ) (b : Bool) (said : List ℕ) → b ≡ n == 0 → n ≡ length xs → b ≡ false
    → shown_pointer (outwards xs []) ++ (codes ": " ++ said) ≡ place_text (outwards xs []) ++ said
some_place [] n b said test is some = absurd (true≢false (sym (test ∙ ap (λ m. m == 0) is) ∙ some))
some_place (x ∷ xs) n b said test is some = place_behind xs (step_of x) [] said

-- ---- texts

no_utf8_by : (bytes : List ℕ) (b : Bool) → is_utf8 bytes ≡ b → (IsUtf8 bytes → ⊥) → no_tree bytes ≡ codes "this is no UTF-8\n"
no_utf8_by bytes true e h = absurd (h (IsUtf8-from_is_utf8 bytes e))
no_utf8_by bytes false e h = ap (λ t. if t then no_json bytes else codes "this is no UTF-8\n") e

pub no_utf8 : (bytes : List ℕ) → (IsUtf8 bytes → ⊥) → no_tree bytes ≡ codes "this is no UTF-8\n"
no_utf8 bytes h = no_utf8_by bytes (is_utf8 bytes) refl h

-- ---- lines, one after the other

-- one more line
pub line_more : {X Y : Type 0} (f : Y → List ℕ) (g : X → Y) (xs : List X) (i : ℕ) (x d : X) (old new all : List ℕ) → old ++ flat_map f (map g (drop i xs)) ≡ all
    → i < length xs → x ≡ get_or xs i d → new ≡ old ++ f (g x) → new ++ flat_map f (map g (drop (i + 1) xs)) ≡ all
line_more f g xs i x d old new all before less is put =
    let next : suc i ≡ i + 1 = omega arith in
    let first : drop i xs ≡ x ∷ drop (i + 1) xs = drop-cons xs i d less ∙ ap (λ y. y ∷ drop (suc i) xs) (sym is) ∙ ap (λ n. x ∷ drop n xs) next in
    let rest = flat_map f (map g (drop (i + 1) xs)) in
    ap (λ s. s ++ rest) put ∙ append_assoc old (f (g x)) rest ∙ sym (ap (λ ys. old ++ flat_map f (map g ys)) first) ∙ before
