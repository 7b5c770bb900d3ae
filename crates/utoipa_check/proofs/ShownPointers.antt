-- The steps of a pointer that is shown.
use Rattle.std.proofs.Common.{◌≡◌, ◌∙◌, ℕ, ◌^◌, ◌<◌, ◌≤◌, List, [], ◌∷◌, ◌++◌, ◌==◌, ◌&&◌, ◌||◌, not, Bool, true, false, if◌then◌else◌, codes, decimal, refl, sym, ap, arith, nat_lt, nat_le}
use Rattle.std.specs.Char.{IsScalar, encode_utf8, is_ascii_digit}
use Rattle.std.specs.List.{flat_map, list_all}
use Rattle.std.specs.Str.{IsUtf8, chars, all_scalars, all_ascii_digits}
use Rattle.std.proofs.lemmas.Bool.{and_parts, and_from, ltb-true, leb-true, cond-false, agree_below_at, not-true}
use Rattle.std.proofs.lemmas.Fmt.{digits_decimal}
use Rattle.std.proofs.lemmas.Grind.{flat_map-append}
use Rattle.std.proofs.lemmas.List.{append-nil}
use Rattle.std.proofs.lemmas.Str.{IsUtf8-append, IsUtf8-nil, IsUtf8-encode, chars-append, chars-nil, scalars-chars, encode_ascii}
use Rattle.std.proofs.lemmas.Str.Parse.{numerals_by_value, tells_all_ascii_digits}
use Rattle.utoipa_check.specs.Misfits.{Step}
use Rattle.utoipa_check.specs.Pointers.{escaped_char, escaped, step_text, shown_escaped_char, shown_pointer}
use Rattle.utoipa_check.specs.Shown.{is_hidden, shown_char, shown, IsOneLine}
use Rattle.utoipa_check.proofs.ShownTexts.{is_printed, printed, printed_chars, printed_is_seen, chars_of_one, nothing_is_one_line, one_line_append, shown_line, shown_by_chars}

-- ---- ASCII that is shown as it is

abbrev is_plain : ℕ → Bool
is_plain c = is_printed c && not (c == 92)

plain_char : (c : ℕ) → is_plain c ≡ true → shown_char c ≡ c ∷ []
plain_char c p =
    let parts = and_parts (is_printed c) (not (c == 92)) p in
    let high : c < 128 = omega (arith, ltb-true c 127 (and_parts (nat_lt 31 c) (nat_lt c 127) parts.0).1) in
    cond-false (c == 92) _ _ (not-true (c == 92) parts.1) ∙ cond-false (is_hidden c) _ _ (printed_is_seen c parts.0) ∙ encode_ascii c high

plain_chars : (bs : List ℕ) → list_all is_plain bs ≡ true → flat_map shown_char bs ≡ bs
plain_chars [] p = refl
plain_chars (b ∷ bs) p =
    let parts = and_parts (is_plain b) (list_all is_plain bs) p in
    (λ i. plain_char b parts.0 i ++ plain_chars bs parts.1 i)

plain_is_printed : (bs : List ℕ) → list_all is_plain bs ≡ true → list_all is_printed bs ≡ true
plain_is_printed [] p = refl
plain_is_printed (b ∷ bs) p =
    let parts = and_parts (is_plain b) (list_all is_plain bs) p in
    and_from (is_printed b) (list_all is_printed bs) (and_parts (is_printed b) (not (b == 92)) parts.0).0 (plain_is_printed bs parts.1)

plain_text : (bs : List ℕ) → list_all is_plain bs ≡ true → flat_map shown_char (chars bs) ≡ bs
plain_text bs p = ap (flat_map shown_char) (printed_chars bs (plain_is_printed bs p)) ∙ plain_chars bs p

-- ---- an index

digit_is_plain : (c : ℕ) → is_ascii_digit c ≡ true → is_plain c ≡ true
digit_is_plain c d =
    let most : c ≤ 57 = leb-true c 57 (and_parts (nat_le 48 c) (nat_le c 57) d).1 in
    let less : c < 58 = omega (arith, most) in
    ap (λ b. not b || is_plain c) (sym d) ∙ agree_below_at (λ e. not (is_ascii_digit e) || is_plain e) (λ e. true) 58 c refl less

digits_are_plain : (ds : List ℕ) → all_ascii_digits ds ≡ true → list_all is_plain ds ≡ true
digits_are_plain [] h = refl
digits_are_plain (d ∷ ds) h =
    let parts = and_parts (is_ascii_digit d) (all_ascii_digits ds) h in
    and_from (is_plain d) (list_all is_plain ds) (digit_is_plain d parts.0) (digits_are_plain ds parts.1)

pub decimal_shown : (n : ℕ) → n < 2 ^ 64 → decimal n ≡ shown (decimal n)
decimal_shown n small =
    let plain = digits_are_plain (decimal n) (digits_decimal (numerals_by_value (λ ds. all_ascii_digits ds ≡ true) tells_all_ascii_digits) n small) in
    sym (shown_by_chars (decimal n) (printed (decimal n) (plain_is_printed (decimal n) plain)).utf8 ∙ plain_text (decimal n) plain)

-- ---- a name

letter_by : (c : ℕ) (tilde slash : Bool) → IsScalar c
    → IsUtf8 (if tilde then codes "~0" else (if slash then codes "~1" else encode_utf8 c))
    × (flat_map shown_char (chars (if tilde then codes "~0" else (if slash then codes "~1" else encode_utf8 c)))
    ≡ if tilde || slash then (if tilde then codes "~0" else (if slash then codes "~1" else encode_utf8 c)) else shown_char c)
letter_by c true slash s = ((printed (codes "~0") refl).utf8, plain_text (codes "~0") refl)
letter_by c false true s = ((printed (codes "~1") refl).utf8, plain_text (codes "~1") refl)
letter_by c false false s = (IsUtf8-encode c s, ap (flat_map shown_char) (chars_of_one c s) ∙ append-nil (shown_char c))

escaped_utf8 : (cs : List ℕ) → all_scalars cs ≡ true → IsUtf8 (flat_map escaped_char cs)
escaped_utf8 [] s = IsUtf8-nil
escaped_utf8 (c ∷ cs) s =
    let parts = and_parts _ (all_scalars cs) s in
    IsUtf8-append (escaped_char c) (flat_map escaped_char cs) (letter_by c (c == 126) (c == 47) parts.0).0 (escaped_utf8 cs parts.1)

letters_shown : (cs : List ℕ) → all_scalars cs ≡ true → flat_map shown_char (chars (flat_map escaped_char cs)) ≡ flat_map shown_escaped_char cs
letters_shown [] s = ap (flat_map shown_char) chars-nil
letters_shown (c ∷ cs) s =
    let parts = and_parts _ (all_scalars cs) s in
    let letter = letter_by c (c == 126) (c == 47) parts.0 in
    ap (flat_map shown_char) (chars-append (escaped_char c) (flat_map escaped_char cs) letter.0)
    ∙ flat_map-append shown_char (chars (escaped_char c)) (chars (flat_map escaped_char cs))
    ∙ (λ i. letter.1 i ++ letters_shown cs parts.1 i)

-- a name that is shown letter by letter
pub name_shown : (name : List ℕ) → IsUtf8 name → flat_map shown_escaped_char (chars name) ≡ shown (escaped name)
name_shown name u =
    let s = scalars-chars name u in
    sym (shown_by_chars (escaped name) (escaped_utf8 (chars name) s) ∙ letters_shown (chars name) s)

-- ---- a pointer

pub pointer_line : (ss : List Step) → IsOneLine (shown_pointer ss)
pointer_line [] = nothing_is_one_line
pointer_line (s ∷ ss) =
    one_line_append (47 ∷ shown (step_text s)) (shown_pointer ss) (one_line_append (codes "/") (shown (step_text s)) (printed (codes "/") refl) (shown_line (step_text s))) (pointer_line ss)
