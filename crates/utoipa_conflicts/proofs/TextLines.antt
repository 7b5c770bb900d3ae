-- The texts of conflicts are lines.
use Rattle.std.proofs.Common.{◌≡◌, ℕ, List, ◌++◌, codes, decimal, length, refl}
use Rattle.std.specs.List.{flat_map}
use Rattle.utoipa_check.specs.Pointers.{shown_pointer}
use Rattle.utoipa_check.specs.Shown.{shown, IsOneLine, AreLines}
use Rattle.utoipa_check.proofs.SaidOnLines.{before_words}
use Rattle.utoipa_check.proofs.ShownPointers.{pointer_line}
use Rattle.utoipa_check.proofs.ShownTexts.{one_line_append, shown_line}
use Rattle.utoipa_check.proofs.WholeLines.{decimal_line, end_of, lines_of_each}
use Rattle.utoipa_conflicts.specs.Conflicts.{Conflict}
use Rattle.utoipa_conflicts.specs.Merged.{Told}
use Rattle.utoipa_conflicts.specs.Texts.{conflict_said, conflict_text, told_text, told_line, told_lines}

said_line : (place : List ℕ) (kept dropped : ℕ) → IsOneLine place → IsOneLine (conflict_said place kept dropped)
said_line place kept dropped h =
    let first = one_line_append (place ++ codes ": document ") (decimal dropped) (before_words place (codes ": document ") h refl) (decimal_line dropped) in
    let both = before_words (place ++ codes ": document " ++ decimal dropped) (codes "'s value is dropped, since document ") first refl in
    let second = one_line_append (place ++ codes ": document " ++ decimal dropped ++ codes "'s value is dropped, since document ") (decimal kept) both (decimal_line kept) in
    before_words (place ++ codes ": document " ++ decimal dropped ++ codes "'s value is dropped, since document " ++ decimal kept) (codes " decides") second refl

pub conflict_line : (c : Conflict) → IsOneLine (conflict_text c)
conflict_line c = said_line (shown_pointer c.0) c.1 c.2 (pointer_line c.0)

pub told_one_line : (c : Told) → IsOneLine (told_text c)
told_one_line c = said_line (shown c.0) c.1 c.2 (shown_line c.0)

pub told_are_lines : (cs : List Told) → AreLines (length cs) (told_lines cs)
told_are_lines cs = lines_of_each told_line (λ c. end_of (told_text c) (told_one_line c)) cs
