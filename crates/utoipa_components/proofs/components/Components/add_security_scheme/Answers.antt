use Rattle.std.proofs.Common.{refl}
use Rattle.utoipa_components.proofs.Refused.{on_err_if}
use Rattle.utoipa_components.proofs.components.Components.add_security_scheme.Goals as goal

pub returns-in_err-insert-clause-err : goal.returns-in_err-insert-clause-err
returns-in_err-insert-clause-err c = on_err_if c.from_residual.result (c.insert.new.self, c.in_err-insert.ensures.err, refl)

pub returns-clause-ok : goal.returns-clause-ok
returns-clause-ok c = (c.insert.new.self, c.in_ok-insert.ensures.entries, refl)
