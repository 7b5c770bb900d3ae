use Rattle.std.proofs.Common.{◌≡◌, ◌++◌, [], ◌∷◌, refl, sym, ap, ◌∙◌, append_assoc}
use Rattle.std.proofs.lemmas.List.{append-nil}
use Rattle.utoipa_check.specs.Misfits as specs
use Rattle.utoipa_check.specs.Views.{step_of, misfits_of}
use Rattle.utoipa_check.proofs.Steps.{put_one, none_left}
use Rattle.utoipa_check.proofs.misfit.put_under.Goals as goal

pub loop-misfit-init : goal.loop-misfit-init
loop-misfit-init c = record { passed = c.into_iter-misfit-iterator.ensures.into_iter_gives.0; put = sym (append-nil (misfits_of c.args.found.now.items)) }

pub loop-misfit-preserved : goal.loop-misfit-preserved
loop-misfit-preserved c =
    record {
      passed = append_assoc c.loop-misfit.yielded (c.in-Some.misfit ∷ []) _ ∙ ap (λ l. c.loop-misfit.yielded ++ l) (sym c.in-Some.ensures.steps.0) ∙ c.loop-misfit.invariant.passed;
      put =
          put_one c.loop-misfit.found.items _ c.args.found.now.items c.loop-misfit.yielded c.in-Some.misfit _ c.args.step c.loop-misfit.invariant.put c.in_ok-push.ensures.items refl c.in_ok-push-2.ensures.items;
    }

pub returns : goal.returns
returns c =
    let rest = c.loop-misfit.misfit-iterator.rest in
    let none = none_left rest.items rest.len rest.ok.0 c.in-None.ensures.steps.0 in
    let all : c.loop-misfit.yielded ≡ c.args.inner.items = sym (append-nil c.loop-misfit.yielded) ∙ ap (λ l. c.loop-misfit.yielded ++ l) (sym none) ∙ c.loop-misfit.invariant.passed in
    c.loop-misfit.invariant.put ∙ ap (λ ms. misfits_of c.args.found.now.items ++ specs.under (step_of c.args.step) (misfits_of ms)) all
