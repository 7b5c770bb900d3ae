use Rattle.std.proofs.Common.{ap}
use Rattle.utoipa_check.specs.Views.{step_of}
use Rattle.utoipa_check.specs.declared.misfit.Outcome.{Outcome}
use Rattle.utoipa_check.proofs.Copies.{outcome_copied}
use Rattle.utoipa_check.proofs.copied.all_copied.Goals as goal

pub loop-outcome-preserved : goal.loop-outcome-preserved
loop-outcome-preserved c =
    let o = c.outcome-item.result in
    let n : Outcome = record { step = o.step; misfits = c.in_ok-misfits.misfits } in
    outcome_copied c.args.outcomes.now c.loop-outcome.all.items c.push.new.self.items c.loop-outcome.outcome-index o n _ c.loop-outcome.invariant c.loop-outcome-test.true c.outcome-item.is (ap (λ ms. (step_of o.step, ms)) c.in_ok-misfits.ensures) c.in_ok-push.ensures.items
