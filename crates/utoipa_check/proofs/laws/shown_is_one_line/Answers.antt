use Rattle.utoipa_check.proofs.SaidOnLines.{misfit_line, reference_line, dropped_line}
use Rattle.utoipa_check.proofs.ShownPointers.{pointer_line}
use Rattle.utoipa_check.proofs.ShownTexts.{shown_line, meant_back}
use Rattle.utoipa_check.proofs.laws.shown_is_one_line.Goals as goal

pub returns-clause-one_line : goal.returns-clause-one_line
returns-clause-one_line c = shown_line

pub returns-clause-back : goal.returns-clause-back
returns-clause-back c = meant_back

pub returns-clause-pointer : goal.returns-clause-pointer
returns-clause-pointer c = pointer_line

pub returns-clause-misfit : goal.returns-clause-misfit
returns-clause-misfit c = misfit_line

pub returns-clause-reference : goal.returns-clause-reference
returns-clause-reference c = reference_line

pub returns-clause-dropped : goal.returns-clause-dropped
returns-clause-dropped c = dropped_line
