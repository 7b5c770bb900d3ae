-- What is in doubt at the places inside a tree.
use Rattle.std.specs.Prelude.{List, [], ◌∷◌, Bool, true, false, if◌then◌else◌}
use Rattle.serde_json.specs.Data.{Data}
use Rattle.utoipa_check.specs.Doubts.{unknown_flow, doubters, doubts, row_doubts}
use Rattle.utoipa_check.specs.Misfits.{Misfits, check_at, checker}
use Rattle.utoipa_check.specs.Places.{Target, of_kind, any_flow, no_fraction, Place, Outcome, members_at}
use Rattle.utoipa_check.specs.Views.{is_kept}
use Rattle.utoipa_tables.specs.Tables.{kind_of}
use Rattle.utoipa_tables.specs.declared.kinds.Row.{Row}

-- what is in doubt, by what a tree is looked at as
abbrev pub target_doubts : Target → Data → Misfits
target_doubts (of_kind k) d = doubts k d
target_doubts any_flow d = unknown_flow (checker d)
target_doubts no_fraction d = []

-- a step, and what is in doubt behind it
abbrev pub doubted : Place → Outcome
doubted p = (p.step, target_doubts p.target p.tree)

abbrev pub all_doubted : List Place → List Outcome
all_doubted [] = []
all_doubted (p ∷ ps) = doubted p ∷ all_doubted ps

-- ---- rows of the program

-- what is in doubt by one row
abbrev pub row_doubts_at : Row → Data → Misfits
row_doubts_at r d = if is_kept r.mark then row_doubts r.name.now (kind_of r.kind) (check_at r.name.now (doubters (members_at d))) else []
