use Rattle.std.proofs.Common.{◌≡◌, ◌++◌, [], ◌∷◌, refl, sym, ap, ◌∙◌, append_assoc}
use Rattle.std.proofs.lemmas.List.{append-nil}
use Rattle.utoipa_check.specs.Views.{step_of}
use Rattle.utoipa_check.proofs.Steps.{none_left}
use Rattle.utoipa_duplicates.specs.Duplicates.{behind}
use Rattle.utoipa_duplicates.specs.Views.{places_of}
use Rattle.utoipa_duplicates.proofs.Places.{put_one}
use Rattle.utoipa_duplicates.proofs.put_behind.Goals as goal

pub loop-pointer-init : goal.loop-pointer-init
loop-pointer-init c = record { passed = c.into_iter-pointer-iterator.ensures.into_iter_gives.0; put = sym (append-nil (places_of c.args.found.now.items)) }

pub loop-pointer-preserved : goal.loop-pointer-preserved
loop-pointer-preserved c =
    record {
      passed = append_assoc c.loop-pointer.yielded (c.in-Some.pointer ∷ []) _ ∙ ap (λ l. c.loop-pointer.yielded ++ l) (sym c.in-Some.ensures.steps.0) ∙ c.loop-pointer.invariant.passed;
      put = put_one c.loop-pointer.found.items _ c.args.found.now.items c.loop-pointer.yielded c.in-Some.pointer _ c.args.step c.loop-pointer.invariant.put c.in_ok-push.ensures.items c.in_ok-push-2.ensures.items;
    }

pub returns : goal.returns
returns c =
    let rest = c.loop-pointer.pointer-iterator.rest in
    let none = none_left rest.items rest.len rest.ok.0 c.in-None.ensures.steps.0 in
    let all : c.loop-pointer.yielded ≡ c.args.inner.items = sym (append-nil c.loop-pointer.yielded) ∙ ap (λ l. c.loop-pointer.yielded ++ l) (sym none) ∙ c.loop-pointer.invariant.passed in
    c.loop-pointer.invariant.put ∙ ap (λ ps. places_of c.args.found.now.items ++ behind (step_of c.args.step) (places_of ps)) all
