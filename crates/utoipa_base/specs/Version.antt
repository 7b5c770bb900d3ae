-- The version of the standard, as its text is read.
use Rattle.std.specs.Prelude.{ℕ, ◌==◌, ◌&&◌, ◌||◌, ℤ, pos, negsuc, List, [], ◌∷◌, ◌++◌, Bool, true, false, not, nat_le, if◌then◌else◌, Option, None, Some, codes}
use Rattle.std.specs.List.{list_all}
use Rattle.std.specs.Str.{bytes_eq}
use Rattle.std.specs.Str.Parse.{without_leading_sign, signed_digits_value}

-- the pieces of a text between its dots, where `piece` has been read of the first
abbrev pub pieces_after : List ℕ → List ℕ → List (List ℕ)
pieces_after piece [] = piece ∷ []
pieces_after piece (c ∷ cs) = if c == 46 then piece ∷ pieces_after [] cs else pieces_after (piece ++ c ∷ []) cs

abbrev pub is_digit : ℕ → Bool
is_digit c = nat_le 48 c && nat_le c 57

abbrev pub is_empty_text : List ℕ → Bool
is_empty_text [] = true
is_empty_text (c ∷ cs) = false

-- one or more digits
abbrev pub are_digits : List ℕ → Bool
are_digits s = not (is_empty_text s) && list_all is_digit s

-- from -128 to 127
abbrev pub is_byte : ℤ → Bool
is_byte (pos n) = nat_le n 127
is_byte (negsuc n) = nat_le n 127

-- the number of a piece that is an optional sign and digits with a value from -128 to 127
abbrev pub piece_number : List ℕ → Option ℤ
piece_number s = if are_digits (without_leading_sign s) && is_byte (signed_digits_value 10 s) then Some (signed_digits_value 10 s) else None

abbrev pub and_number : Option ℤ → List ℤ → List ℤ
and_number None zs = zs
and_number (Some z) zs = z ∷ zs

-- the numbers of the pieces that count, the others dropped
abbrev pub piece_numbers : List (List ℕ) → List ℤ
piece_numbers [] = []
piece_numbers (s ∷ ss) = and_number (piece_number s) (piece_numbers ss)

abbrev pub is_number : ℕ → ℤ → Bool
is_number n (pos m) = m == n
is_number n (negsuc m) = false

-- the version of three numbers that begin 3 1 or 3 2
abbrev pub version_of : List ℤ → Option (List ℕ)
version_of [] = None
version_of (a ∷ []) = None
version_of (a ∷ b ∷ []) = None
version_of (a ∷ b ∷ c ∷ []) =
    if is_number 3 a && is_number 1 b then Some (codes "3.1.0") else (if is_number 3 a && is_number 2 b then Some (codes "3.2.0") else None)
version_of (a ∷ b ∷ c ∷ d ∷ zs) = None

-- the version that a text names
unfoldable pub read_version : List ℕ → Option (List ℕ)
read_version s = version_of (piece_numbers (pieces_after [] s))

-- whether a text is a version as it is written
abbrev pub is_version : List ℕ → Bool
is_version s = bytes_eq s (codes "3.1.0") || bytes_eq s (codes "3.2.0")
