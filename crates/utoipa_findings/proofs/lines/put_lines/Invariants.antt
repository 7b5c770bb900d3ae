use Rattle.std.proofs.Common.{◌≡◌, ◌++◌, drop, string_bytes}
use Rattle.std.specs.List.{flat_map}
use Rattle.utoipa_findings.specs.Lines.{finding_line}
use Rattle.utoipa_findings.specs.Views.{all_findings}
use Rattle.utoipa_findings.proofs.lines.put_lines.Given as goal

abbrev pub invariant-loop-finding : goal.invariant-loop-finding
invariant-loop-finding l = string_bytes l.lines ++ flat_map (finding_line l.name) (all_findings (drop l.finding-index l.found)) ≡ string_bytes l.initial.lines ++ flat_map (finding_line l.name) (all_findings l.found)
