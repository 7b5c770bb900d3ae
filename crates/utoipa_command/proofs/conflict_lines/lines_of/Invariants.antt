use Rattle.std.proofs.Common.{◌≡◌, ◌++◌, drop, string_bytes}
use Rattle.std.specs.List.{flat_map}
use Rattle.utoipa_conflicts.specs.Views.{all_told}
use Rattle.utoipa_conflicts.specs.Texts.{told_line}
use Rattle.utoipa_command.proofs.conflict_lines.lines_of.Given as goal

abbrev pub invariant-loop-conflict : goal.invariant-loop-conflict
invariant-loop-conflict l = string_bytes l.lines ++ flat_map told_line (all_told (drop l.conflict-index l.conflicts)) ≡ flat_map told_line (all_told l.conflicts)
