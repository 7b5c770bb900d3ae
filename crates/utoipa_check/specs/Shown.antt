-- Texts of a document and names of files, as they are shown on a line among others.
use Rattle.std.specs.Prelude.{◌≡◌, ℕ, zero, suc, ◌+◌, ◌*◌, List, [], ◌∷◌, ◌++◌, ◌==◌, ◌||◌, Bool, true, not, if◌then◌else◌, All, codes, length}
use Rattle.std.specs.Char.{encode_utf8, digit_value, is_control}
use Rattle.std.specs.Char.Escape.{hex_digit_at}
use Rattle.std.specs.Int.{is_in_range}
use Rattle.std.specs.List.{flat_map, list_all}
use Rattle.std.specs.Str.{IsUtf8, is_utf8, chars, encode_utf8_all}

-- A character that may end a line, act on a terminal, or turn the direction of what is seen: the controls C0, DEL and C1, the separators U+2028 and
-- U+2029, and the marks U+061C, U+200E, U+200F, U+202A to U+202E and U+2066 to U+2069.
abbrev pub is_hidden : ℕ → Bool
is_hidden c = is_control c || (c == 0x61C || (is_in_range 0x200E 0x200F c || (is_in_range 0x2028 0x202E c || is_in_range 0x2066 0x2069 c)))

abbrev pub hex_digit : (place c : ℕ) → List ℕ
hex_digit place c = encode_utf8 (hex_digit_at place c)

-- `\u`, and the number of a character below 65536 in four digits
abbrev pub by_number : ℕ → List ℕ
by_number c = codes "\\u" ++ (hex_digit 0x1000 c ++ (hex_digit 0x100 c ++ (hex_digit 0x10 c ++ hex_digit 1 c)))

-- a hidden character, as in a JSON string (RFC 8259, section 7)
abbrev pub hidden_char : ℕ → List ℕ
hidden_char c = if c == 10 then codes "\\n" else (if c == 13 then codes "\\r" else (if c == 9 then codes "\\t" else (if c == 8 then codes "\\b" else (if c == 12 then codes "\\f" else by_number c))))

-- a character: a hidden one as in a JSON string, and a backslash doubled
abbrev pub shown_char : ℕ → List ℕ
shown_char c = if c == 92 then codes "\\\\" else (if is_hidden c then hidden_char c else encode_utf8 c)

-- a text; bytes that are no text are shown as nothing
abbrev pub shown : List ℕ → List ℕ
shown text = if is_utf8 text then flat_map shown_char (chars text) else []

-- ---- what is meant by a text that is shown

-- how far such a text is read
pub data Reading : Type 0 where
  between : Reading
  behind_backslash : Reading
  -- behind some digits, with so many to come behind the next one
  in_number : (so_far left : ℕ) → Reading

-- the character that a letter behind a backslash stands for
abbrev pub letter_meant : ℕ → ℕ
letter_meant c = if c == 110 then 10 else (if c == 114 then 13 else (if c == 116 then 9 else (if c == 98 then 8 else (if c == 102 then 12 else c))))

abbrev pub with_digit : (so_far c : ℕ) → ℕ
with_digit so_far c = so_far * 16 + digit_value c

abbrev pub letters_meant : Reading → List ℕ → List ℕ
letters_meant r [] = []
letters_meant between (c ∷ cs) = if c == 92 then letters_meant behind_backslash cs else c ∷ letters_meant between cs
letters_meant behind_backslash (c ∷ cs) = if c == 117 then letters_meant (in_number 0 3) cs else letter_meant c ∷ letters_meant between cs
letters_meant (in_number n zero) (c ∷ cs) = with_digit n c ∷ letters_meant between cs
letters_meant (in_number n (suc left)) (c ∷ cs) = letters_meant (in_number (with_digit n c) left) cs

-- the text that was shown so
abbrev pub meant : List ℕ → List ℕ
meant text = encode_utf8_all (letters_meant between (chars text))

-- ---- lines

-- a text on one line: no character of it is hidden
pub record IsOneLine (text : List ℕ) : Type 0 where
  pub utf8 : IsUtf8 text
  pub seen : list_all (λ c. not (is_hidden c)) (chars text) ≡ true

abbrev pub ended : List ℕ → List ℕ
ended line = line ++ codes "\n"

-- a text is so many lines, each ended by a line feed, and nothing else is hidden in it
pub record AreLines (n : ℕ) (text : List ℕ) : Type 0 where
  pub lines : List (List ℕ)
  pub count : length lines ≡ n
  pub each : All IsOneLine lines
  pub are : flat_map ended lines ≡ text
