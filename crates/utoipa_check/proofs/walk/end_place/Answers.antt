use Rattle.std.proofs.Common.{◌∙◌, ◌++◌, ◌∷◌, [], ap}
use Rattle.utoipa_check.specs.Views.{step_of, stacked, outcome_of}
use Rattle.utoipa_check.specs.declared.misfit.Outcome.{Outcome}
use Rattle.utoipa_check.proofs.Walks.{split_stack, result_put}
use Rattle.utoipa_check.proofs.walk.end_place.Goals as goal

pub misfits_from-requires : goal.misfits_from-requires
misfits_from-requires c = ap stacked c.in_ok-inner.ensures.tail ∙ (split_stack outcome_of c.args.outcomes.now.items c.args.below _ c.requires.0 c.requires.1 c.requires.2).0

pub returns : goal.returns
returns c = λ rest before count.
    let made : Outcome = record { step = c.args.task.step; misfits = c.in_ok-misfits.misfits } in
    result_put outcome_of c.args.outcomes.now.items c.push.new.self.items made c.args.below _ rest _ before count (c.in_ok-push.ensures.items ∙ ap (λ xs. xs ++ made ∷ []) c.in_ok-inner.ensures.items)
    (ap (λ ms. (step_of c.args.task.step, ms)) c.in_ok-misfits.ensures)
