use Rattle.utoipa_findings.proofs.OnLines.{treeless_is_a_line, told_are_lines, conflicts_are_lines, nested_are_lines}
use Rattle.utoipa_findings.proofs.laws.told_is_lines.Goals as goal

pub returns-clause-findings : goal.returns-clause-findings
returns-clause-findings c = told_are_lines

pub returns-clause-treeless : goal.returns-clause-treeless
returns-clause-treeless c = treeless_is_a_line

pub returns-clause-conflicts : goal.returns-clause-conflicts
returns-clause-conflicts c = conflicts_are_lines

pub returns-clause-nested : goal.returns-clause-nested
returns-clause-nested c = nested_are_lines
