-- The lines in which findings are told.
use Rattle.std.specs.Prelude.{ℕ, List, [], ◌∷◌, ◌++◌, codes, slice_index_or}
use Rattle.std.specs.List.{flat_map}
use Rattle.utoipa_check.specs.Dropped.{Loss, absent, left_out, changed}
use Rattle.utoipa_check.specs.Misfits.{Step}
use Rattle.utoipa_check.specs.Pointers.{shown_pointer}
use Rattle.utoipa_check.specs.Said.{cause_text}
use Rattle.utoipa_check.specs.Shown.{shown}
use Rattle.utoipa_conflicts.specs.Conflicts.{Conflict}
use Rattle.utoipa_findings.specs.Findings.{What, unfit, doubtful, lost, dangles, repeated, Finding}

abbrev pub loss_text : Loss → List ℕ
loss_text absent = codes "this is dropped"
loss_text left_out = codes "this is empty, and left out"
loss_text changed = codes "this is written as another value"

abbrev pub what_text : What → List ℕ
what_text (unfit c) = cause_text c
what_text (doubtful c) = codes "this is read otherwise than it was meant: " ++ cause_text c
what_text (lost l) = loss_text l
what_text (dangles text) = codes "the reference `" ++ shown text ++ codes "` leads to nothing"
what_text repeated = codes "this name stands again, and what stood here before is dropped"

-- the JSON Pointer of a place, before what is found there; the root needs none
abbrev pub place_text : List Step → List ℕ
place_text [] = []
place_text (s ∷ ss) = shown_pointer (s ∷ ss) ++ codes ": "

abbrev pub finding_text : Finding → List ℕ
finding_text f = place_text f.0 ++ what_text f.1

-- a line that tells something of a file, by its name as it is shown
abbrev pub line : (name said : List ℕ) → List ℕ
line name said = shown name ++ codes ": " ++ said ++ codes "\n"

abbrev pub finding_line : (name : List ℕ) → Finding → List ℕ
finding_line name f = line name (finding_text f)

-- the lines of what is found in a file
abbrev pub lines_of : (name : List ℕ) → List Finding → List ℕ
lines_of name fs = flat_map (finding_line name) fs

-- ---- conflicts

-- the name of a file by its number, counted from 0
abbrev pub name_at : List (List ℕ) → ℕ → List ℕ
name_at names n = slice_index_or names n []

-- a value that is dropped: the file that has it, its place, what is being done, and the file that decides there
abbrev pub drop_line : (doing dropped : List ℕ) → List Step → (kept : List ℕ) → List ℕ
drop_line doing dropped p kept =
    shown dropped ++ (codes ": " ++ (shown_pointer p ++ (codes ": " ++ (doing ++ (codes " drops this, since " ++ (shown kept ++ codes " decides here\n"))))))

-- what is dropped, by the names of the files
abbrev pub dropped_line : (doing : List ℕ) (names : List (List ℕ)) → Conflict → List ℕ
dropped_line doing names c = drop_line doing (name_at names c.2) c.0 (name_at names c.1)

-- what merging drops
abbrev pub conflict_line : (names : List (List ℕ)) → Conflict → List ℕ
conflict_line names c = dropped_line (codes "merging") names c

-- what nesting drops
abbrev pub nested_line : (names : List (List ℕ)) → Conflict → List ℕ
nested_line names c = dropped_line (codes "nesting") names c
