use Rattle.utoipa_conflicts.specs.Views.{conflict_of}
use Rattle.utoipa_findings.specs.Lines.{dropped_line}
use Rattle.utoipa_findings.specs.Views.{names_of}
use Rattle.utoipa_findings.proofs.Said.{line_more}
use Rattle.utoipa_findings.proofs.conflict.lines_of_conflicts.Goals as goal

pub loop-conflict-preserved : goal.loop-conflict-preserved
loop-conflict-preserved c =
    line_more (dropped_line c.args.doing.now (names_of c.args.sources.now)) conflict_of c.args.conflicts.now c.loop-conflict.conflict-index c.conflict-item.result _ _ _ _
    c.loop-conflict.invariant c.loop-conflict-test.true c.conflict-item.is c.in_ok-put_conflict.ensures
