-- What a conflict is printed as.
use Rattle.std.specs.Prelude.{ℕ, List, ◌++◌, codes, decimal}
use Rattle.std.specs.List.{flat_map}
use Rattle.utoipa_check.specs.Pointers.{shown_pointer}
use Rattle.utoipa_check.specs.Shown.{shown}
use Rattle.utoipa_conflicts.specs.Conflicts.{Conflict}
use Rattle.utoipa_conflicts.specs.Merged.{Told}

-- a conflict, by the text of its place as it is shown
abbrev pub conflict_said : (place : List ℕ) (kept dropped : ℕ) → List ℕ
conflict_said place kept dropped = place ++ codes ": document " ++ decimal dropped ++ codes "'s value is dropped, since document " ++ decimal kept ++ codes " decides"

abbrev pub conflict_text : Conflict → List ℕ
conflict_text c = conflict_said (shown_pointer c.0) c.1 c.2

-- a conflict with its place as a text
abbrev pub told_text : Told → List ℕ
told_text c = conflict_said (shown c.0) c.1 c.2

-- the same on a line
abbrev pub told_line : Told → List ℕ
told_line c = told_text c ++ codes "\n"

-- a line for each
abbrev pub told_lines : List Told → List ℕ
told_lines cs = flat_map told_line cs
