use Rattle.std.proofs.Common.{◌≡◌, ◌++◌, [], ◌∷◌, refl, sym, ap, ◌∙◌, append_assoc}
use Rattle.std.proofs.lemmas.List.{append-nil}
use Rattle.utoipa_check.specs.References as specs
use Rattle.utoipa_check.specs.ReferenceViews.{mentions_of}
use Rattle.utoipa_check.specs.Views.{step_of}
use Rattle.utoipa_check.proofs.Mentions.{put_one}
use Rattle.utoipa_check.proofs.Steps.{none_left}
use Rattle.utoipa_check.proofs.mention.put_mentions.Goals as goal

pub loop-mention-init : goal.loop-mention-init
loop-mention-init c = record { passed = c.into_iter-mention-iterator.ensures.into_iter_gives.0; put = sym (append-nil (mentions_of c.args.found.now.items)) }

pub loop-mention-preserved : goal.loop-mention-preserved
loop-mention-preserved c =
    record {
      passed = append_assoc c.loop-mention.yielded (c.in-Some.mention ∷ []) _ ∙ ap (λ l. c.loop-mention.yielded ++ l) (sym c.in-Some.ensures.steps.0) ∙ c.loop-mention.invariant.passed;
      put =
          put_one c.loop-mention.found.items _ c.args.found.now.items c.loop-mention.yielded c.in-Some.mention _ c.args.step c.loop-mention.invariant.put c.in_ok-push.ensures.items refl refl c.in_ok-push-2.ensures.items;
    }

pub returns : goal.returns
returns c =
    let rest = c.loop-mention.mention-iterator.rest in
    let none = none_left rest.items rest.len rest.ok.0 c.in-None.ensures.steps.0 in
    let all : c.loop-mention.yielded ≡ c.args.inner.items = sym (append-nil c.loop-mention.yielded) ∙ ap (λ l. c.loop-mention.yielded ++ l) (sym none) ∙ c.loop-mention.invariant.passed in
    c.loop-mention.invariant.put ∙ ap (λ ms. mentions_of c.args.found.now.items ++ specs.under (step_of c.args.step) (mentions_of ms)) all
