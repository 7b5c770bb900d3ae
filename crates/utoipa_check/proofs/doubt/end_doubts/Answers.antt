use Rattle.std.proofs.Common.{◌∙◌, ◌++◌, ◌∷◌, [], ap}
use Rattle.utoipa_check.specs.Views.{step_of, outcome_of, stacked}
use Rattle.utoipa_check.specs.declared.misfit.Outcome.{Outcome}
use Rattle.utoipa_check.proofs.Walks.{split_stack, split_slice, result_put}
use Rattle.utoipa_check.proofs.doubt.end_doubts.Goals as goal

pub doubts_from-requires-clause-misfits : goal.doubts_from-requires-clause-misfits
doubts_from-requires-clause-misfits c = split_slice outcome_of c.args.outcomes.now.items _ c.args.below _ c.requires.outcomes.0 c.deref.ensures.value c.requires.outcomes.1 c.requires.outcomes.2

pub doubts_from-requires-clause-inner : goal.doubts_from-requires-clause-inner
doubts_from-requires-clause-inner c = ap stacked c.in_ok-inner.ensures.tail ∙ (split_stack outcome_of c.args.found.now.items c.args.below _ c.requires.found.0 c.requires.found.1 c.requires.found.2).0

pub returns : goal.returns
returns c = λ rest before count.
    let made : Outcome = record { step = c.args.task.now.step; misfits = c.in_ok-misfits.misfits } in
    result_put outcome_of c.args.found.now.items c.push.new.self.items made c.args.below _ rest _ before count (c.in_ok-push.ensures.items ∙ ap (λ xs. xs ++ made ∷ []) c.in_ok-inner.ensures.items)
    (ap (λ ms. (step_of c.args.task.now.step, ms)) c.in_ok-misfits.ensures)
