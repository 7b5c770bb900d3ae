-- Texts that are shown: each is one line, and what is meant by it can be had back.
use Rattle.std.proofs.Common.{◌≡◌, ◌⊎◌, inl, inr, ◌∙◌, ℕ, ◌+◌, ◌*◌, ◌/◌, ◌%◌, ◌<◌, List, [], ◌∷◌, ◌++◌, ◌==◌, ◌||◌, ◌&&◌, not, Bool, true, false, codes, refl, sym, ap, subst, arith, nat_lt, nat_le}
use Rattle.std.specs.Char.{IsScalar, encode_utf8, digit_char, digit_value, is_control}
use Rattle.std.specs.Char.Escape.{hex_digit_at}
use Rattle.std.specs.Int.{is_in_range}
use Rattle.std.specs.List.{flat_map, list_all}
use Rattle.std.specs.Str.{IsUtf8, is_utf8, chars, encode_utf8_all, all_scalars}
use Rattle.std.proofs.Math.Utf8.{low_scalar}
use Rattle.std.proofs.lemmas.Bool.{and_parts, and_from, or_cases, leb-true, ltb-true, eqb-true, le-ltb, cond_both, cond-true, cond-false, agree_below_at, not_from_false}
use Rattle.std.proofs.lemmas.List.{append-nil}
use Rattle.std.proofs.lemmas.List.Folds.{list_all-append}
use Rattle.std.proofs.lemmas.Str.{IsUtf8-append, IsUtf8-nil, IsUtf8-encode, chars-append, chars-nil, chars-encodes, encodes-chars, scalars-chars, encode_ascii, is_utf8-from_IsUtf8, IsUtf8-from_is_utf8, digit_value-digit_char}
use Rattle.utoipa_check.specs.Shown.{is_hidden, hex_digit, by_number, hidden_char, shown_char, shown, between, with_digit, letters_meant, meant, IsOneLine}

-- ---- texts on one line

pub nothing_is_one_line : IsOneLine []
nothing_is_one_line = record { utf8 = IsUtf8-nil; seen = ap (list_all (λ c. not (is_hidden c))) chars-nil }

pub one_line_append : (xs ys : List ℕ) → IsOneLine xs → IsOneLine ys → IsOneLine (xs ++ ys)
one_line_append xs ys x y = record {
  utf8 = IsUtf8-append xs ys x.utf8 y.utf8;
  seen =
      ap (list_all (λ c. not (is_hidden c))) (chars-append xs ys x.utf8) ∙ list_all-append (λ c. not (is_hidden c)) (chars xs) (chars ys)
      ∙ and_from (list_all (λ c. not (is_hidden c)) (chars xs)) (list_all (λ c. not (is_hidden c)) (chars ys)) x.seen y.seen;
}

pub chars_of_one : (c : ℕ) → IsScalar c → chars (encode_utf8 c) ≡ c ∷ []
chars_of_one c s = ap chars (sym (append-nil (encode_utf8 c))) ∙ chars-encodes (c ∷ []) (ap (λ b. b && true) s)

pub seen_is_one_line : (c : ℕ) → IsScalar c → is_hidden c ≡ false → IsOneLine (encode_utf8 c)
seen_is_one_line c s h = record {
  utf8 = IsUtf8-encode c s;
  seen = ap (list_all (λ d. not (is_hidden d))) (chars_of_one c s) ∙ and_from (not (is_hidden c)) true (not_from_false (is_hidden c) h) refl;
}

-- ---- ASCII that is printed

abbrev pub is_printed : ℕ → Bool
is_printed c = nat_lt 31 c && nat_lt c 127

pub printed_is_seen : (c : ℕ) → is_printed c ≡ true → is_hidden c ≡ false
printed_is_seen c p =
    let parts = and_parts (nat_lt 31 c) (nat_lt c 127) p in
    agree_below_at is_hidden (λ d. nat_lt d 32) 127 c refl (ltb-true c 127 parts.1) ∙ le-ltb c 32 (ltb-true 31 c parts.0)

pub printed_byte : (c : ℕ) → is_printed c ≡ true → IsOneLine (c ∷ [])
printed_byte c p =
    let high : c < 128 = omega (arith, ltb-true c 127 (and_parts (nat_lt 31 c) (nat_lt c 127) p).1) in
    subst IsOneLine (encode_ascii c high) (seen_is_one_line c (low_scalar c (omega arith)) (printed_is_seen c p))

pub printed : (bs : List ℕ) → list_all is_printed bs ≡ true → IsOneLine bs
printed [] p = nothing_is_one_line
printed (b ∷ bs) p =
    let parts = and_parts (is_printed b) (list_all is_printed bs) p in
    one_line_append (b ∷ []) bs (printed_byte b parts.0) (printed bs parts.1)

-- ---- characters that are hidden

hidden_is_small : (c : ℕ) → is_hidden c ≡ true → c < 65536
hidden_is_small c h = by_control (or_cases _ _ h)
  where
    in_range : (lo hi : ℕ) → hi < 65536 → is_in_range lo hi c ≡ true → c < 65536
    in_range lo hi small e = let t = leb-true c hi (and_parts (nat_le lo c) (nat_le c hi) e).1 in omega arith

    last : (is_in_range 0x2028 0x202E c ≡ true) ⊎ (is_in_range 0x2066 0x2069 c ≡ true) → c < 65536
    last (inl e) = in_range 0x2028 0x202E (omega arith) e
    last (inr e) = in_range 0x2066 0x2069 (omega arith) e

    later : (is_in_range 0x200E 0x200F c ≡ true) ⊎ ((is_in_range 0x2028 0x202E c || is_in_range 0x2066 0x2069 c) ≡ true) → c < 65536
    later (inl e) = in_range 0x200E 0x200F (omega arith) e
    later (inr e) = last (or_cases _ _ e)

    one : (c == 0x61C ≡ true) ⊎ ((is_in_range 0x200E 0x200F c || (is_in_range 0x2028 0x202E c || is_in_range 0x2066 0x2069 c)) ≡ true) → c < 65536
    one (inl e) = let t = eqb-true c 0x61C e in omega arith
    one (inr e) = later (or_cases _ _ e)

    control : (is_in_range 0 0x1F c ≡ true) ⊎ (is_in_range 0x7F 0x9F c ≡ true) → c < 65536
    control (inl e) = in_range 0 0x1F (omega arith) e
    control (inr e) = in_range 0x7F 0x9F (omega arith) e

    by_control : (is_control c ≡ true) ⊎ ((c == 0x61C || (is_in_range 0x200E 0x200F c || (is_in_range 0x2028 0x202E c || is_in_range 0x2066 0x2069 c))) ≡ true) → c < 65536
    by_control (inl e) = control (or_cases _ _ e)
    by_control (inr e) = one (or_cases _ _ e)

digit_is_printed : (d : ℕ) → d < 16 → is_printed (digit_char d) ≡ true
digit_is_printed d h = agree_below_at (λ n. is_printed (digit_char n)) (λ n. true) 16 d refl h

-- the character of a digit, as a byte
digit_byte : (place c : ℕ) → hex_digit place c ≡ hex_digit_at place c ∷ []
digit_byte place c =
    let less : c / place % 16 < 16 = omega arith in
    let high : hex_digit_at place c < 127 = ltb-true (hex_digit_at place c) 127 (and_parts (nat_lt 31 (hex_digit_at place c)) (nat_lt (hex_digit_at place c) 127) (digit_is_printed (c / place % 16) less)).1 in
    encode_ascii (hex_digit_at place c) (omega (arith, high))

digit_line : (place c : ℕ) → IsOneLine (hex_digit place c)
digit_line place c =
    let less : c / place % 16 < 16 = omega arith in
    subst IsOneLine (sym (digit_byte place c)) (printed_byte (hex_digit_at place c) (digit_is_printed (c / place % 16) less))

number_line : (c : ℕ) → IsOneLine (by_number c)
number_line c =
    one_line_append (codes "\\u") _ (printed (codes "\\u") refl)
    (one_line_append (hex_digit 0x1000 c) _ (digit_line 0x1000 c) (one_line_append (hex_digit 0x100 c) _ (digit_line 0x100 c) (one_line_append (hex_digit 0x10 c) _ (digit_line 0x10 c) (digit_line 1 c))))

hidden_line : (c : ℕ) → IsOneLine (hidden_char c)
hidden_line c =
    cond_both (c == 10) _ _ IsOneLine (λ _. printed (codes "\\n") refl) (λ _.
    cond_both (c == 13) _ _ IsOneLine (λ _. printed (codes "\\r") refl) (λ _.
    cond_both (c == 9) _ _ IsOneLine (λ _. printed (codes "\\t") refl) (λ _.
    cond_both (c == 8) _ _ IsOneLine (λ _. printed (codes "\\b") refl) (λ _.
    cond_both (c == 12) _ _ IsOneLine (λ _. printed (codes "\\f") refl) (λ _. number_line c)))))

pub shown_char_line : (c : ℕ) → IsScalar c → IsOneLine (shown_char c)
shown_char_line c s =
    cond_both (c == 92) _ _ IsOneLine (λ _. printed (codes "\\\\") refl) (λ _. cond_both (is_hidden c) _ _ IsOneLine (λ _. hidden_line c) (λ e. seen_is_one_line c s e))

-- ---- texts that are shown

chars_line : (cs : List ℕ) → all_scalars cs ≡ true → IsOneLine (flat_map shown_char cs)
chars_line [] s = nothing_is_one_line
chars_line (c ∷ cs) s =
    let parts = and_parts _ (all_scalars cs) s in
    one_line_append (shown_char c) (flat_map shown_char cs) (shown_char_line c parts.0) (chars_line cs parts.1)

pub shown_line : (text : List ℕ) → IsOneLine (shown text)
shown_line text = cond_both (is_utf8 text) _ _ IsOneLine (λ e. chars_line (chars text) (scalars-chars text (IsUtf8-from_is_utf8 text e))) (λ _. nothing_is_one_line)

-- of a text that is UTF-8 each character is shown
pub shown_by_chars : (text : List ℕ) → IsUtf8 text → shown text ≡ flat_map shown_char (chars text)
shown_by_chars text u = cond-true (is_utf8 text) _ _ (is_utf8-from_IsUtf8 text u)

-- ---- what is meant

pub printed_chars : (bs : List ℕ) → list_all is_printed bs ≡ true → chars bs ≡ bs
printed_chars [] p = chars-nil
printed_chars (b ∷ bs) p =
    let parts = and_parts (is_printed b) (list_all is_printed bs) p in
    let high : b < 128 = omega (arith, ltb-true b 127 (and_parts (nat_lt 31 b) (nat_lt b 127) parts.0).1) in
    let same = ap chars (sym (encode_ascii b high)) ∙ chars_of_one b (low_scalar b (omega arith)) in
    chars-append (b ∷ []) bs (printed_byte b parts.0).utf8 ∙ ap (λ cs. cs ++ chars bs) same ∙ ap (λ cs. b ∷ cs) (printed_chars bs parts.1)

abbrev digits_of : (c : ℕ) → List ℕ
digits_of c = hex_digit_at 0x1000 c ∷ hex_digit_at 0x100 c ∷ hex_digit_at 0x10 c ∷ hex_digit_at 1 c ∷ []

number_letters : (c : ℕ) → chars (by_number c) ≡ 92 ∷ 117 ∷ digits_of c
number_letters c =
    ap chars (λ i. codes "\\u" ++ (digit_byte 0x1000 c i ++ (digit_byte 0x100 c i ++ (digit_byte 0x10 c i ++ digit_byte 1 c i))))
    ∙ printed_chars (92 ∷ 117 ∷ digits_of c)
    (and_from (is_printed (hex_digit_at 0x1000 c)) _ (digit 0x1000)
    (and_from (is_printed (hex_digit_at 0x100 c)) _ (digit 0x100) (and_from (is_printed (hex_digit_at 0x10 c)) _ (digit 0x10) (and_from (is_printed (hex_digit_at 1 c)) true (digit 1) refl))))
  where
    digit : (place : ℕ) → is_printed (hex_digit_at place c) ≡ true
    digit place = let less : c / place % 16 < 16 = omega arith in digit_is_printed (c / place % 16) less

digit_counts : (place c : ℕ) → digit_value (hex_digit_at place c) ≡ c / place % 16
digit_counts place c = let less : c / place % 16 < 36 = omega arith in digit_value-digit_char (c / place % 16) less

four_digits : (c a b d e : ℕ) → c < 65536 → a ≡ c / 0x1000 % 16 → b ≡ c / 0x100 % 16 → d ≡ c / 0x10 % 16 → e ≡ c / 1 % 16 → ((((0 * 16 + a) * 16 + b) * 16 + d) * 16 + e) ≡ c
four_digits c a b d e small ea eb ed ee = omega arith

number_meant : (c : ℕ) → c < 65536
    → with_digit (with_digit (with_digit (with_digit 0 (hex_digit_at 0x1000 c)) (hex_digit_at 0x100 c)) (hex_digit_at 0x10 c)) (hex_digit_at 1 c) ≡ c
number_meant c small = four_digits c _ _ _ _ small (digit_counts 0x1000 c) (digit_counts 0x100 c) (digit_counts 0x10 c) (digit_counts 1 c)

-- the letters of a character that is shown are read as the character
abbrev Goes : (c : ℕ) (rest : List ℕ) (bytes : List ℕ) → Type 0
Goes c rest bytes = letters_meant between (chars bytes ++ rest) ≡ c ∷ letters_meant between rest

by_letters : (c : ℕ) (rest bytes letters : List ℕ) → chars bytes ≡ letters → letters_meant between (letters ++ rest) ≡ c ∷ letters_meant between rest → Goes c rest bytes
by_letters c rest bytes letters e h = ap (λ cs. letters_meant between (cs ++ rest)) e ∙ h

number_goes : (c : ℕ) (rest : List ℕ) → c < 65536 → Goes c rest (by_number c)
number_goes c rest small = by_letters c rest (by_number c) (92 ∷ 117 ∷ digits_of c) (number_letters c) (ap (λ n. n ∷ letters_meant between rest) (number_meant c small))

-- a character by a letter behind a backslash
letter_goes : (c letter : ℕ) (rest : List ℕ) → is_printed letter ≡ true → letters_meant between (92 ∷ letter ∷ rest) ≡ c ∷ letters_meant between rest → Goes c rest (92 ∷ letter ∷ [])
letter_goes c letter rest p h = by_letters c rest (92 ∷ letter ∷ []) (92 ∷ letter ∷ []) (printed_chars (92 ∷ letter ∷ []) (and_from (is_printed letter) true p refl)) h

same_first : (c d : ℕ) (rest : List ℕ) → (c == d) ≡ true → d ∷ letters_meant between rest ≡ c ∷ letters_meant between rest
same_first c d rest e = ap (λ n. n ∷ letters_meant between rest) (sym (eqb-true c d e))

hidden_goes : (c : ℕ) (rest : List ℕ) → c < 65536 → Goes c rest (hidden_char c)
hidden_goes c rest small =
    cond_both (c == 10) _ _ (Goes c rest) (λ e. letter_goes c 110 rest refl (same_first c 10 rest e)) (λ _.
    cond_both (c == 13) _ _ (Goes c rest) (λ e. letter_goes c 114 rest refl (same_first c 13 rest e)) (λ _.
    cond_both (c == 9) _ _ (Goes c rest) (λ e. letter_goes c 116 rest refl (same_first c 9 rest e)) (λ _.
    cond_both (c == 8) _ _ (Goes c rest) (λ e. letter_goes c 98 rest refl (same_first c 8 rest e)) (λ _.
    cond_both (c == 12) _ _ (Goes c rest) (λ e. letter_goes c 102 rest refl (same_first c 12 rest e)) (λ _. number_goes c rest small)))))

seen_goes : (c : ℕ) (rest : List ℕ) → IsScalar c → (c == 92) ≡ false → Goes c rest (encode_utf8 c)
seen_goes c rest s other = by_letters c rest (encode_utf8 c) (c ∷ []) (chars_of_one c s) (cond-false (c == 92) _ _ other)

char_goes : (c : ℕ) (rest : List ℕ) → IsScalar c → Goes c rest (shown_char c)
char_goes c rest s =
    cond_both (c == 92) _ _ (Goes c rest) (λ e. letter_goes c 92 rest refl (same_first c 92 rest e)) (λ other.
    cond_both (is_hidden c) _ _ (Goes c rest) (λ h. hidden_goes c rest (hidden_is_small c h)) (λ _. seen_goes c rest s other))

letters_back : (cs : List ℕ) → all_scalars cs ≡ true → letters_meant between (chars (flat_map shown_char cs)) ≡ cs
letters_back [] s = ap (letters_meant between) chars-nil
letters_back (c ∷ cs) s =
    let parts = and_parts _ (all_scalars cs) s in
    ap (letters_meant between) (chars-append (shown_char c) (flat_map shown_char cs) (shown_char_line c parts.0).utf8)
    ∙ char_goes c (chars (flat_map shown_char cs)) parts.0 ∙ ap (λ ds. c ∷ ds) (letters_back cs parts.1)

pub meant_back : (text : List ℕ) → IsUtf8 text → meant (shown text) ≡ text
meant_back text u =
    ap meant (shown_by_chars text u) ∙ ap encode_utf8_all (letters_back (chars text) (scalars-chars text u)) ∙ encodes-chars text u
