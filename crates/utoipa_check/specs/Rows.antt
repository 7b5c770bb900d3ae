-- What does not fit by one row of the program.
use Rattle.std.specs.Prelude.{ℕ, List, [], ◌∷◌, Bool, true, ◌&&◌, if◌then◌else◌, Option, None, Some}
use Rattle.serde_json.specs.Data.{Data}
use Rattle.utoipa_base.specs.Kinds.{Kind}
use Rattle.utoipa_check.specs.Misfits.{Misfits, Check, here, absent, under, at_name, check_at, checks}
use Rattle.utoipa_check.specs.Places.{members_at}
use Rattle.utoipa_check.specs.Views.{has_to_fit, is_required, is_plain_kind}
use Rattle.utoipa_tables.specs.Tables.{kind_of}
use Rattle.utoipa_tables.specs.declared.kinds.Mark.{Mark}
use Rattle.utoipa_tables.specs.declared.kinds.Row.{Row}

-- by the mark, the name and the kind of the row, and by the member
abbrev pub misfits_by_row : Mark → List ℕ → Kind → Option Check → Misfits
misfits_by_row m name k None = if is_required m then here (absent name) else []
misfits_by_row m name k (Some c) = if has_to_fit m c.0 then under (at_name name) (c.1 k) else []

abbrev pub row_misfits_at : Row → Data → Misfits
row_misfits_at r d = misfits_by_row r.mark r.name.now (kind_of r.kind) (check_at r.name.now (checks (members_at d)))

-- whether all members are texts, flags or anything
abbrev pub all_plain : List (List ℕ × Kind) → Bool
all_plain [] = true
all_plain (f ∷ fs) = is_plain_kind f.1 && all_plain fs
