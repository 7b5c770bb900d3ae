use Rattle.std.proofs.Common.{◌++◌, [], ◌∷◌, map, refl, sym, ap, ◌∙◌, append_assoc}
use Rattle.std.proofs.lemmas.List.{append-nil}
use Rattle.serde_json.specs.View.{view}
use Rattle.utoipa_check.specs.References.{referring}
use Rattle.utoipa_check.specs.ReferenceViews.{mentions_of}
use Rattle.utoipa_check.proofs.Mentions.{reference_put}
use Rattle.utoipa_check.proofs.Steps.{none_left}
use Rattle.utoipa_check.proofs.references.references.Goals as goal

pub loop-mention-preserved : goal.loop-mention-preserved
loop-mention-preserved c =
    record {
      passed = ap mentions_of (append_assoc c.loop-mention.yielded (c.in-Some.mention ∷ []) _ ∙ ap (λ l. c.loop-mention.yielded ++ l) (sym c.in-Some.ensures.steps.0)) ∙ c.loop-mention.invariant.passed;
      put =
          reference_put c.loop-mention.found.items _ c.loop-mention.yielded c.in-Some.mention _ (view c.args.tree.now) c.loop-mention.invariant.put refl refl refl c.in_ok-state.ensures c.in_ok-push.ensures.items;
    }

pub returns : goal.returns
returns c =
    let rest = c.loop-mention.mention-iterator.rest in
    let none = none_left rest.items rest.len rest.ok.0 c.in-None.ensures.steps.0 in
    let all = ap mentions_of (sym (append-nil c.loop-mention.yielded) ∙ ap (λ l. c.loop-mention.yielded ++ l) (sym none)) ∙ c.loop-mention.invariant.passed in
    c.loop-mention.invariant.put ∙ ap (map (referring (view c.args.tree.now))) all
