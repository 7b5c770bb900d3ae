-- The pieces of a version text: the numbers that count, and the text piece by piece.
use Rattle.std.proofs.Common.{◌≡◌, ◌≢◌, ℕ, suc, ◌<◌, ◌≤◌, ℤ, pos, negsuc, List, [], ◌∷◌, ◌++◌, Bool, true, false, ◌&&◌, ◌==◌, None, Some, length, get_or, if◌then◌else◌, refl, sym, ap, subst, ◌∙◌, arith, append-nil, append_assoc, ne_eqb, w8}
use mir.Val.{SFits, to_z, of_z}
use Rattle.std.proofs.lemmas.Bool.Decides.{nat_tests, Decides-and}
use Rattle.std.proofs.lemmas.Int.{to_z-of_z}
use Rattle.std.proofs.lemmas.Str.{digit_value_digit}
use Rattle.std.proofs.lemmas.Str.Parse.{digit_from_value}
use Rattle.std.specs.Bool.{Decides}
use Rattle.std.specs.Char.{digit_value}
use Rattle.std.specs.List.{list_all}
use Rattle.std.specs.Str.Parse.{AllDigits, IsNumeral, without_leading_sign, signed_digits_value}
use Rattle.utoipa_base.specs.Version.{pieces_after, is_digit, are_digits, is_byte, piece_number}

-- ---- the number of a piece

-- what std counts as a decimal digit is a digit
is_digit-from : (c : ℕ) → digit_value c < 10 → is_digit c ≡ true
is_digit-from c h = let k = digit_from_value c h in grind (arith, nat_tests)

-- a digit is what std counts as a decimal digit
from-is_digit : (c : ℕ) → is_digit c ≡ true → digit_value c < 10
from-is_digit c e =
    let low : 48 ≤ c = grind (arith, nat_tests) in
    let high : c ≤ 57 = grind (arith, nat_tests) in
    omega (arith, digit_value_digit c (low, high))

-- each byte is a digit, as std says it
all_digits : (ds : List ℕ) → Decides (list_all is_digit ds) (AllDigits 10 ds)
all_digits [] = ((λ _. tt), λ _. refl)
all_digits (c ∷ cs) = Decides-and (is_digit c) (list_all is_digit cs) (from-is_digit c, is_digit-from c) (all_digits cs)

-- one or more digits, as std says it
numeral : (ds : List ℕ) → Decides (are_digits ds) (IsNumeral 10 ds)
numeral [] = ((λ e. cc), λ h. absurd (omega (arith, h.0)))
numeral (c ∷ cs) = let all = all_digits (c ∷ cs) in ((λ e. (omega arith, all.0 e)), λ h. all.1 h.1)

-- from -128 to 127, as std says it
fits : (z : ℤ) → Decides (is_byte z) (SFits w8 z)
fits (pos n) = ((λ e. record { sfits = grind (arith, nat_tests) }), λ h. let k = h.sfits in grind (arith, nat_tests))
fits (negsuc n) = ((λ e. record { sfits = grind (arith, nat_tests) }), λ h. let k = h.sfits in grind (arith, nat_tests))

-- a piece counts, as std says it
counts : (s : List ℕ) → Decides (are_digits (without_leading_sign s) && is_byte (signed_digits_value 10 s)) (IsNumeral 10 (without_leading_sign s) × SFits w8 (signed_digits_value 10 s))
counts s = Decides-and _ _ (numeral (without_leading_sign s)) (fits (signed_digits_value 10 s))

-- a test of what does not hold is false
decided_not : {P : Type 0} (b : Bool) → Decides b P → ¬ P → b ≡ false
decided_not true d n = absurd (n (d.0 refl))
decided_not false d n = refl

-- a piece that is parsed counts as its number
pub counted : (s : List ℕ) (z : ℤ) → (IsNumeral 10 (without_leading_sign s) × SFits w8 (signed_digits_value 10 s)) × (z ≡ signed_digits_value 10 s) → Some (to_z w8 (of_z w8 z)) ≡ piece_number s
counted s z h =
    let fit : SFits w8 z = subst (SFits w8) (sym h.1) h.0.1 in
    ap Some (to_z-of_z w8 z fit ∙ h.1) ∙ sym (ap (λ b. if b then Some (signed_digits_value 10 s) else None) ((counts s).1 h.0))

-- a piece that is not parsed doesn't count
pub uncounted : (s : List ℕ) → ¬ (IsNumeral 10 (without_leading_sign s) × SFits w8 (signed_digits_value 10 s)) → None ≡ piece_number s
uncounted s n = sym (ap (λ b. if b then Some (signed_digits_value 10 s) else None) (decided_not _ (counts s) n))

-- ---- the text, piece by piece

-- no dot stands in a text
abbrev pub LacksDot : List ℕ → Type 0
LacksDot xs = (i : ℕ) → i < length xs → get_or xs i 0 ≢ 46

-- the rest of a text without a dot has none
rest_lacks : (x : ℕ) (xs : List ℕ) → LacksDot (x ∷ xs) → LacksDot xs
rest_lacks x xs free i l = free (suc i) (omega arith)

-- the first byte of a text without a dot is none
first_apart : (x : ℕ) (xs : List ℕ) → LacksDot (x ∷ xs) → (x == 46) ≡ false
first_apart x xs free = ne_eqb x 46 (free 0 (omega arith))

-- the piece before a dot is the first
pub piece_before : (piece xs ys : List ℕ) → LacksDot xs → pieces_after piece (xs ++ (46 ∷ ys)) ≡ (piece ++ xs) ∷ pieces_after [] ys
piece_before piece [] ys free = ap (λ p. p ∷ pieces_after [] ys) (sym (append-nil piece))
piece_before piece (x ∷ xs) ys free =
    ap (λ b. if b then piece ∷ pieces_after [] (xs ++ (46 ∷ ys)) else pieces_after (piece ++ (x ∷ [])) (xs ++ (46 ∷ ys))) (first_apart x xs free)
    ∙ piece_before (piece ++ (x ∷ [])) xs ys (rest_lacks x xs free) ∙ ap (λ p. p ∷ pieces_after [] ys) (append_assoc piece (x ∷ []) xs)

-- without a dot there is one piece
pub last_piece : (piece xs : List ℕ) → LacksDot xs → pieces_after piece xs ≡ (piece ++ xs) ∷ []
last_piece piece [] free = ap (λ p. p ∷ []) (sym (append-nil piece))
last_piece piece (x ∷ xs) free =
    ap (λ b. if b then piece ∷ pieces_after [] xs else pieces_after (piece ++ (x ∷ [])) xs) (first_apart x xs free)
    ∙ last_piece (piece ++ (x ∷ [])) xs (rest_lacks x xs free) ∙ ap (λ p. p ∷ []) (append_assoc piece (x ∷ []) xs)
