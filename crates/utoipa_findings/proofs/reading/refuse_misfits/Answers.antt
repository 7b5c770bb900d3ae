use Rattle.utoipa_findings.proofs.Fitting.{none_there, some_there}
use Rattle.utoipa_findings.proofs.reading.refuse_misfits.Goals as goal

pub returns-then-is_empty-clause-ok : goal.returns-then-is_empty-clause-ok
returns-then-is_empty-clause-ok c =
    c.in_ok-report.ensures.exact.0 (none_there c.in_ok-report.report.misfits.items _ _ c.is_empty.ensures c.in_ok-report.report.misfits.ok.0 c.if-is_empty.true)

pub returns-clause-err : goal.returns-clause-err
returns-clause-err c = record {
  none = λ d reads. some_there c.in_ok-report.report.misfits.items _ _ c.is_empty.ensures c.in_ok-report.report.misfits.ok.0 c.if-is_empty.false (c.in_ok-report.ensures.exact.1 (d, reads));
  lines = c.in_ok-lines.ensures;
}
