use Rattle.std.proofs.Common.{◌≡◌, ◌++◌, drop, string_bytes}
use Rattle.std.specs.List.{flat_map}
use Rattle.utoipa_conflicts.specs.Views.{all_conflicts}
use Rattle.utoipa_findings.specs.Lines.{dropped_line}
use Rattle.utoipa_findings.specs.Views.{names_of}
use Rattle.utoipa_findings.proofs.conflict.lines_of_conflicts.Given as goal

abbrev pub invariant-loop-conflict : goal.invariant-loop-conflict
invariant-loop-conflict l = string_bytes l.lines ++ flat_map (dropped_line l.doing (names_of l.sources)) (all_conflicts (drop l.conflict-index l.conflicts)) ≡ flat_map (dropped_line l.doing (names_of l.sources)) (all_conflicts l.conflicts)
