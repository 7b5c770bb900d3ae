use Rattle.std.proofs.Common.{◌∙◌, refl}
use Rattle.utoipa_check.specs.declared.misfit.Misfit.{Misfit}
use Rattle.utoipa_check.proofs.Copies.{misfit_copied}
use Rattle.utoipa_check.proofs.copied.copied.Goals as goal

pub loop-misfit-preserved : goal.loop-misfit-preserved
loop-misfit-preserved c =
    let m = c.misfit-item.result in
    let n : Misfit = record { pointer = record { steps = c.in_ok-steps.steps }; cause = m.cause } in
    misfit_copied c.args.misfits.now.items c.deref-misfit-items.result.now c.loop-misfit.found.items c.push.new.self.items c.loop-misfit.misfit-index m n _ c.loop-misfit.invariant c.deref-misfit-items.ensures.value c.loop-misfit-test.true c.misfit-item.is
    (c.in_ok-steps.ensures.items ∙ c.as_slice.ensures.value) refl c.in_ok-push.ensures.items
