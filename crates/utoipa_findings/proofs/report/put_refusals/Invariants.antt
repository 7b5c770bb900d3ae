use Rattle.std.proofs.Common.{◌≡◌, ◌++◌, map}
use Rattle.serde_json.specs.View.{view}
use Rattle.utoipa_check.specs.Views.{misfits_of}
use Rattle.utoipa_findings.specs.Findings.{unfit_at, refusals}
use Rattle.utoipa_findings.specs.Views.{all_findings}
use Rattle.utoipa_tables.specs.Tables.{kind_of}
use Rattle.utoipa_findings.proofs.report.put_refusals.Given as goal

abbrev pub invariant-loop-misfit : goal.invariant-loop-misfit
invariant-loop-misfit l = all_findings l.found.items ++ map unfit_at (misfits_of l.misfit-iterator.rest.items) ≡ all_findings l.initial.found.items ++ refusals (kind_of l.fn.kind) (view l.fn.tree)
