use Rattle.utoipa_conflicts.proofs.TextLines.{conflict_line, told_one_line, told_are_lines}
use Rattle.utoipa_conflicts.proofs.laws.conflicts_are_lines.Goals as goal

pub returns-clause-conflict : goal.returns-clause-conflict
returns-clause-conflict c = conflict_line

pub returns-clause-told : goal.returns-clause-told
returns-clause-told c = told_one_line

pub returns-clause-lines : goal.returns-clause-lines
returns-clause-lines c = told_are_lines
