use Rattle.std.proofs.Common.{◌∙◌, ◌++◌, ◌∷◌, [], ap}
use Rattle.utoipa_check.specs.ReferenceViews.{mentioned_of, stacked_mentioned}
use Rattle.utoipa_check.specs.Views.{step_of, outcome_of}
use Rattle.utoipa_check.specs.declared.mention.Mentioned.{Mentioned}
use Rattle.utoipa_check.proofs.Walks.{split_stack, split_slice, result_put}
use Rattle.utoipa_check.proofs.references.end_mentions.Goals as goal

pub mentions_from-requires-clause-outcomes : goal.mentions_from-requires-clause-outcomes
mentions_from-requires-clause-outcomes c = split_slice outcome_of c.args.outcomes.now.items _ c.args.below _ c.requires.outcomes.0 c.deref.ensures.value c.requires.outcomes.1 c.requires.outcomes.2

pub mentions_from-requires-clause-inner : goal.mentions_from-requires-clause-inner
mentions_from-requires-clause-inner c = ap stacked_mentioned c.in_ok-inner.ensures.tail ∙ (split_stack mentioned_of c.args.found.now.items c.args.below _ c.requires.found.0 c.requires.found.1 c.requires.found.2).0

pub returns : goal.returns
returns c = λ rest before count.
    let made : Mentioned = record { step = c.args.task.now.step; mentions = c.in_ok-mentions.mentions } in
    result_put mentioned_of c.args.found.now.items c.push.new.self.items made c.args.below _ rest _ before count (c.in_ok-push.ensures.items ∙ ap (λ xs. xs ++ made ∷ []) c.in_ok-inner.ensures.items)
    (ap (λ ms. (step_of c.args.task.now.step, ms)) c.in_ok-mentions.ensures)
