use Rattle.std.proofs.Common.{◌≡◌, ◌++◌, [], ◌∷◌, refl, sym, ap, ◌∙◌, append_assoc}
use Rattle.std.proofs.lemmas.List.{append-nil}
use Rattle.utoipa_check.specs.Views.{step_of}
use Rattle.utoipa_check.proofs.Steps.{none_left}
use Rattle.utoipa_adapt.specs.Adapted.{under}
use Rattle.utoipa_adapt.specs.Views.{all_told}
use Rattle.utoipa_adapt.proofs.Turns.{put_one}
use Rattle.utoipa_adapt.proofs.telling.put_under.Goals as goal

pub loop-place-init : goal.loop-place-init
loop-place-init c = record { passed = c.into_iter-place-iterator.ensures.into_iter_gives.0; put = sym (append-nil (all_told c.args.told.now.items)) }

pub loop-place-preserved : goal.loop-place-preserved
loop-place-preserved c =
    record {
      passed = append_assoc c.loop-place.yielded (c.in-Some.place ∷ []) _ ∙ ap (λ l. c.loop-place.yielded ++ l) (sym c.in-Some.ensures.steps.0) ∙ c.loop-place.invariant.passed;
      put =
          put_one c.loop-place.told.items _ c.args.told.now.items c.loop-place.yielded c.in-Some.place _ c.args.step c.loop-place.invariant.put c.in_ok-push.ensures.items refl c.in_ok-push-2.ensures.items;
    }

pub returns : goal.returns
returns c =
    let rest = c.loop-place.place-iterator.rest in
    let none = none_left rest.items rest.len rest.ok.0 c.in-None.ensures.steps.0 in
    let all : c.loop-place.yielded ≡ c.args.inner.items = sym (append-nil c.loop-place.yielded) ∙ ap (λ l. c.loop-place.yielded ++ l) (sym none) ∙ c.loop-place.invariant.passed in
    c.loop-place.invariant.put ∙ ap (λ ps. all_told c.args.told.now.items ++ under (step_of c.args.step) (all_told ps)) all
