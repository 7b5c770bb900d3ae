use Rattle.std.proofs.Common.{◌≡◌, ◌++◌, [], ◌∙◌, ap, sym, rules}
use Rattle.std.proofs.lemmas.List.{append-nil}
use Rattle.utoipa_check.specs.Places.{joined}
use Rattle.utoipa_check.specs.Views.{misfits_of, stacked}
use Rattle.utoipa_check.proofs.Steps.{joined_step}
use Rattle.utoipa_check.proofs.misfit.join_all.Goals as goal

pub join-init : goal.join-init
join-init c = ap (λ ms. misfits_of ms ++ joined (stacked c.args.inner.items)) c.new-found.ensures.items

pub join-preserved : goal.join-preserved
join-preserved c = joined_step _ _ c.in-Some.outcome _ _ _ c.join.invariant c.in-Some.ensures.items c.in_ok-put_under.ensures

pub returns : goal.returns
returns c =
    let none : c.join.left.items ≡ [] = search rules in
    sym (append-nil _) ∙ ap (λ os. misfits_of c.join.found.items ++ joined (stacked os)) (sym none) ∙ c.join.invariant
