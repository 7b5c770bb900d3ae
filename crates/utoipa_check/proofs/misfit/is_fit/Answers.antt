use Rattle.utoipa_check.proofs.Steps.{fit_by_length}
use Rattle.utoipa_check.proofs.misfit.is_fit.Goals as goal

pub returns : goal.returns
returns c = fit_by_length c.args.found.now.items _ _ c.is_empty.ensures c.args.found.now.ok.0
