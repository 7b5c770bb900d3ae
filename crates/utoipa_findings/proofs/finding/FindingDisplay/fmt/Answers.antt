use Rattle.std.proofs.Common.{subst}
use Rattle.std.specs.Fmt.{HasWritten}
use Rattle.utoipa_findings.proofs.Said.{some_place}
use Rattle.utoipa_findings.proofs.finding.FindingDisplay.fmt.Goals as goal

pub returns-else-is_empty-clause-writes : goal.returns-else-is_empty-clause-writes
returns-else-is_empty-clause-writes g c = λ plain ok.
    subst (λ bs. HasWritten g.W.Write.write_str_gives c.args.f.now bs c.write-else-is_empty.new.self)
    (some_place c.args.self.now.pointer.steps.items _ _ _ c.is_empty.ensures c.args.self.now.pointer.steps.ok.0 c.if-is_empty.false)
    (c.write-else-is_empty.ensures.writes plain ok)
