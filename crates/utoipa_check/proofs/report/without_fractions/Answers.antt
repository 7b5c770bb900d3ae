use Rattle.std.proofs.Common.{◌++◌, [], ◌∷◌, true, false, sym, ap, ◌∙◌, append_assoc}
use Rattle.std.proofs.lemmas.List.{append-nil}
use Rattle.utoipa_check.specs.Views.{misfits_of}
use Rattle.utoipa_check.proofs.Reports.{one_other}
use Rattle.utoipa_check.proofs.Steps.{misfits_of_join}
use Rattle.utoipa_check.proofs.report.without_fractions.Goals as goal

pub loop-misfit-preserved-in-Continue-1 : goal.loop-misfit-preserved-in-Continue-1
loop-misfit-preserved-in-Continue-1 c =
    let m = c.in-Some.misfit in
    record {
      passed = append_assoc c.loop-misfit.yielded (m ∷ []) _ ∙ ap (λ l. c.loop-misfit.yielded ++ l) (sym c.in-Some.ensures.steps.0) ∙ c.loop-misfit.invariant.passed;
      put =
          ap misfits_of c.in_ok-push.ensures.items ∙ misfits_of_join c.loop-misfit.others.items (m ∷ [])
          ∙ sym (one_other c.loop-misfit.yielded c.loop-misfit.others.items m false c.loop-misfit.invariant.put (sym c.is_fraction.ensures ∙ c.if-not-is_fraction.true));
    }

pub loop-misfit-preserved : goal.loop-misfit-preserved
loop-misfit-preserved c =
    let m = c.in-Some.misfit in
    record {
      passed = append_assoc c.loop-misfit.yielded (m ∷ []) _ ∙ ap (λ l. c.loop-misfit.yielded ++ l) (sym c.in-Some.ensures.steps.0) ∙ c.loop-misfit.invariant.passed;
      put = sym (one_other c.loop-misfit.yielded c.loop-misfit.others.items m true c.loop-misfit.invariant.put (sym c.is_fraction.ensures ∙ c.if-not-is_fraction.false) ∙ append-nil _);
    }
