use Rattle.utoipa_meaning.proofs.TextLines.{change_line, changes_are_lines}
use Rattle.utoipa_meaning.proofs.laws.changes_are_lines.Goals as goal

pub returns-clause-change : goal.returns-clause-change
returns-clause-change c = change_line

pub returns-clause-lines : goal.returns-clause-lines
returns-clause-lines c = changes_are_lines
