-- The text of the steps to a place: a JSON Pointer (RFC 6901).
use Rattle.std.specs.Prelude.{ℕ, List, [], ◌∷◌, ◌++◌, ◌==◌, ◌||◌, if◌then◌else◌, codes, decimal}
use Rattle.std.specs.Char.{encode_utf8}
use Rattle.std.specs.List.{flat_map}
use Rattle.std.specs.Str.{chars}
use Rattle.utoipa_check.specs.Misfits.{Step, at_name, at_index}
use Rattle.utoipa_check.specs.Shown.{shown_char, shown}

-- a letter of a name: `~0` for `~`, and `~1` for `/`
abbrev pub escaped_char : ℕ → List ℕ
escaped_char c = if c == 126 then codes "~0" else (if c == 47 then codes "~1" else encode_utf8 c)

abbrev pub escaped : List ℕ → List ℕ
escaped name = flat_map escaped_char (chars name)

abbrev pub step_text : Step → List ℕ
step_text (at_name name) = escaped name
step_text (at_index i) = decimal i

-- each step after a `/`
abbrev pub pointer_text : List Step → List ℕ
pointer_text [] = []
pointer_text (s ∷ ss) = (47 ∷ step_text s) ++ pointer_text ss

-- ---- on a line

-- a letter of a name, shown
abbrev pub shown_escaped_char : ℕ → List ℕ
shown_escaped_char c = if c == 126 || c == 47 then escaped_char c else shown_char c

-- each step, shown, after a `/`
abbrev pub shown_pointer : List Step → List ℕ
shown_pointer [] = []
shown_pointer (s ∷ ss) = (47 ∷ shown (step_text s)) ++ shown_pointer ss
