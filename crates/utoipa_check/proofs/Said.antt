-- Texts of lists, item by item.
use Rattle.std.proofs.Common.{◌≡◌, ℕ, suc, ◌-◌, ◌≤◌, List, [], ◌∷◌, ◌++◌, length, take, drop, take_all, get_or, refl, ap, ◌∙◌, arith}
use Rattle.std.specs.Borrow.{Bor}
use Rattle.std.specs.List.{flat_map}
use Rattle.utoipa_base.specs.Rows.{texts}
use Rattle.utoipa_check.specs.Said.{expectation, quoted, next_word, words_text, next_kind, kinds_text}
use Rattle.utoipa_tables.specs.declared.kinds.Kind.{Kind}
use Rattle.utoipa_tables.specs.Tables.{kind_of, kinds_of}

pub next_words : (ws : List (Bor (List ℕ))) → flat_map (λ w. next_word w.now) ws ≡ flat_map next_word (texts ws)
next_words [] = refl
next_words (w ∷ ws) = ap (λ t. next_word w.now ++ t) (next_words ws)

pub next_kinds : (ks : List Kind) → flat_map (λ k. next_kind (kind_of k)) ks ≡ flat_map next_kind (kinds_of ks)
next_kinds [] = refl
next_kinds (k ∷ ks) = ap (λ t. next_kind (kind_of k) ++ t) (next_kinds ks)

-- words from the first on, once the others have been gone through
pub words_split : (ws : List (Bor (List ℕ))) (d : Bor (List ℕ)) (i : ℕ) → 1 ≤ length ws → length (take (length ws - 1) (drop 1 ws)) ≤ i
    → quoted (get_or ws 0 d).now ++ flat_map (λ w. next_word w.now) (take i (take (length ws - 1) (drop 1 ws))) ≡ words_text (texts ws)
words_split [] d i some past = absurd (omega arith)
words_split (w ∷ ws) d i some past =
    let all : take (suc (length ws) - 1) ws ≡ ws = take_all _ ws (omega arith) in
    let gone : take i (take (suc (length ws) - 1) ws) ≡ ws = take_all i _ past ∙ all in
    ap (λ vs. quoted w.now ++ flat_map (λ v. next_word v.now) vs) gone ∙ ap (λ t. quoted w.now ++ t) (next_words ws)

pub kinds_split : (ks : List Kind) (k d : Kind) (text : List ℕ) (i : ℕ) → 1 ≤ length ks → k ≡ get_or ks 0 d → text ≡ expectation (kind_of k)
    → length (take (length ks - 1) (drop 1 ks)) ≤ i
    → text ++ flat_map (λ j. next_kind (kind_of j)) (take i (take (length ks - 1) (drop 1 ks))) ≡ kinds_text (kinds_of ks)
kinds_split [] k d text i some is said past = absurd (omega arith)
kinds_split (j ∷ ks) k d text i some is said past =
    let all : take (suc (length ks) - 1) ks ≡ ks = take_all _ ks (omega arith) in
    let gone : take i (take (suc (length ks) - 1) ks) ≡ ks = take_all i _ past ∙ all in
    let first : text ≡ expectation (kind_of j) = said ∙ ap (λ m. expectation (kind_of m)) is in
    ap (λ t. t ++ flat_map (λ m. next_kind (kind_of m)) (take i (take (suc (length ks) - 1) ks))) first
    ∙ ap (λ ms. expectation (kind_of j) ++ flat_map (λ m. next_kind (kind_of m)) ms) gone ∙ ap (λ t. expectation (kind_of j) ++ t) (next_kinds ks)
