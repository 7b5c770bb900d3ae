-- Texts that are lines, put together of pieces in which nothing is hidden.
use Rattle.std.proofs.Common.{◌≡◌, ◌∙◌, ℕ, zero, suc, ◌/◌, ◌%◌, ◌<◌, List, [], ◌∷◌, ◌++◌, ◌==◌, true, false, codes, decimal, length, map, get_or, refl, ap, arith, append_assoc}
use Rattle.std.specs.Fmt.{digits, digits_onto, digit_glyph}
use Rattle.std.specs.List.{flat_map, list_all}
use Rattle.std.proofs.lemmas.Bool.{and_from, cond_both, agree_below_at}
use Rattle.std.proofs.lemmas.List.{append-nil, length-map}
use Rattle.std.proofs.lemmas.List.Elements.{All-map}
use Rattle.std.proofs.lemmas.List.Folds.{flat_map-map}
use Rattle.utoipa_check.specs.Shown.{IsOneLine, ended, AreLines}
use Rattle.utoipa_check.proofs.ShownTexts.{is_printed, printed, one_line_append}

-- ---- numbers

glyph_printed : (n : ℕ) → is_printed (digit_glyph false (n % 10)) ≡ true
glyph_printed n = let less : n % 10 < 10 = omega arith in agree_below_at (λ d. is_printed (digit_glyph false d)) (λ d. true) 10 (n % 10) refl less

glyphs_printed : (k n : ℕ) (acc : List ℕ) → list_all is_printed acc ≡ true → list_all is_printed (digits_onto k 10 false n acc) ≡ true
glyphs_printed zero n acc h = h
glyphs_printed (suc k) n acc h =
    let more = and_from (is_printed (digit_glyph false (n % 10))) (list_all is_printed acc) (glyph_printed n) h in
    cond_both (n / 10 == 0) _ _ (λ ds. list_all is_printed ds ≡ true) (λ _. more) (λ _. glyphs_printed k (n / 10) (digit_glyph false (n % 10) ∷ acc) more)

decimal_printed : (n : ℕ) → list_all is_printed (decimal n) ≡ true
unfolding digits
decimal_printed n = glyphs_printed 64 n [] refl

pub decimal_line : (n : ℕ) → IsOneLine (decimal n)
decimal_line n = printed (decimal n) (decimal_printed n)

-- ---- one line

-- a text is one line, with its end
pub record IsEnded (text : List ℕ) : Type 0 where
  pub line : List ℕ
  pub one_line : IsOneLine line
  pub ends : ended line ≡ text

pub end_of : (line : List ℕ) → IsOneLine line → IsEnded (ended line)
end_of line h = record { line = line; one_line = h; ends = refl }

pub printed_end : (words : List ℕ) → list_all is_printed words ≡ true → IsEnded (ended words)
printed_end words p = end_of words (printed words p)

pub before_end : (text rest : List ℕ) → IsOneLine text → IsEnded rest → IsEnded (text ++ rest)
before_end text rest h e = record {
  line = text ++ e.line;
  one_line = one_line_append text e.line h e.one_line;
  ends = append_assoc text e.line (codes "\n") ∙ ap (λ t. text ++ t) e.ends;
}

-- ---- lines

pub lines_of_each : {X : Type 0} (f : X → List ℕ) → ((x : X) → IsEnded (f x)) → (xs : List X) → AreLines (length xs) (flat_map f xs)
lines_of_each {X} f h xs = record {
  lines = map (λ x. (h x).line) xs;
  count = length-map xs (λ x. (h x).line);
  each = All-map IsOneLine (λ x. (h x).line) xs (λ k d less. (h (get_or xs k d)).one_line);
  are = flat_map-map ended (λ x. (h x).line) xs ∙ same xs;
}
  where
    same : (ys : List X) → flat_map (λ x. ended (h x).line) ys ≡ flat_map f ys
    same [] = refl
    same (y ∷ ys) = (λ i. (h y).ends i ++ same ys i)

pub one_line_told : (text : List ℕ) → IsEnded text → AreLines 1 text
one_line_told text e = record {
  lines = e.line ∷ [];
  count = refl;
  each = All-map {X = List ℕ} IsOneLine {Y = List ℕ} (λ x. e.line) ([] ∷ []) (λ k d less. e.one_line);
  are = append-nil (ended e.line) ∙ e.ends;
}
