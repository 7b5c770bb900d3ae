use Rattle.std.proofs.Common.{◌≡◌, ◌++◌, [], ◌∙◌, ap, sym, rules}
use Rattle.std.proofs.lemmas.List.{append-nil}
use Rattle.utoipa_check.specs.Mentioned.{joined}
use Rattle.utoipa_check.specs.ReferenceViews.{mentions_of, stacked_mentioned}
use Rattle.utoipa_check.proofs.Mentions.{joined_step}
use Rattle.utoipa_check.proofs.mention.join_mentions.Goals as goal

pub join-init : goal.join-init
join-init c = ap (λ ms. mentions_of ms ++ joined (stacked_mentioned c.args.inner.items)) c.new-found.ensures.items

pub join-preserved : goal.join-preserved
join-preserved c = joined_step _ _ c.in-Some.mentioned _ _ _ c.join.invariant c.in-Some.ensures.items c.in_ok-put_mentions.ensures

pub returns : goal.returns
returns c =
    let none : c.join.left.items ≡ [] = search rules in
    sym (append-nil _) ∙ ap (λ os. mentions_of c.join.found.items ++ joined (stacked_mentioned os)) (sym none) ∙ c.join.invariant
