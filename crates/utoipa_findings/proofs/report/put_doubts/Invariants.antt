use Rattle.std.proofs.Common.{◌≡◌, ◌++◌, map}
use Rattle.serde_json.specs.View.{view}
use Rattle.utoipa_check.specs.Views.{misfits_of}
use Rattle.utoipa_findings.specs.Findings.{doubtful_at, meant_otherwise}
use Rattle.utoipa_findings.specs.Views.{all_findings}
use Rattle.utoipa_tables.specs.Tables.{kind_of}
use Rattle.utoipa_findings.proofs.report.put_doubts.Given as goal

abbrev pub invariant-loop-misfit : goal.invariant-loop-misfit
invariant-loop-misfit l = all_findings l.found.items ++ map doubtful_at (misfits_of l.misfit-iterator.rest.items) ≡ all_findings l.initial.found.items ++ meant_otherwise (kind_of l.fn.kind) (view l.fn.tree)
