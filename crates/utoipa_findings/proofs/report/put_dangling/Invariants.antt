use Rattle.std.proofs.Common.{◌≡◌, ◌++◌}
use Rattle.std.specs.List.{flat_map}
use Rattle.serde_json.specs.View.{view}
use Rattle.utoipa_check.specs.References.{references}
use Rattle.utoipa_check.specs.ReferenceViews.{references_of}
use Rattle.utoipa_findings.specs.Findings.{dangles_at}
use Rattle.utoipa_findings.specs.Views.{all_findings}
use Rattle.utoipa_tables.specs.Tables.{kind_of}
use Rattle.utoipa_findings.proofs.report.put_dangling.Given as goal

abbrev pub invariant-loop-reference : goal.invariant-loop-reference
invariant-loop-reference l = all_findings l.found.items ++ flat_map dangles_at (references_of l.reference-iterator.rest.items) ≡ all_findings l.initial.found.items ++ flat_map dangles_at (references (kind_of l.fn.kind) (view l.fn.tree))
