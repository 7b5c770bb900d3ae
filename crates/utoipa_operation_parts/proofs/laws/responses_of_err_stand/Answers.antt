use Rattle.std.proofs.Common.{◌∙◌, ap}
use Rattle.utoipa_operation_parts.specs.Traits.{answered_under}
use Rattle.utoipa_operation_parts.proofs.LaterResponses.{later_stands, over}
use Rattle.utoipa_operation_parts.proofs.laws.responses_of_err_stand.Goals as goal

pub returns-clause-of_err : goal.returns-clause-of_err
returns-clause-of_err g c code d is = later_stands code g.E.IntoResponses.answered g.T.IntoResponses.answered ∙ ap (λ l. over l (answered_under code g.T.IntoResponses.answered)) is

pub returns-clause-of_ok : goal.returns-clause-of_ok
returns-clause-of_ok g c code is = later_stands code g.E.IntoResponses.answered g.T.IntoResponses.answered ∙ ap (λ l. over l (answered_under code g.T.IntoResponses.answered)) is
