use Rattle.std.proofs.Common.{◌∙◌, ◌++◌, ap, map}
use Rattle.utoipa_merging_parts.proofs.Walks.{made_step, made_all, no_items}
use Rattle.utoipa_merging_parts.proofs.lists.entries_of.Goals as goal

pub loop-entry-init : goal.loop-entry-init
loop-entry-init g c =
    ap (λ es. es ++ map (λ w. w.entry) c.into_iter-entry-iterator.result.rest.items) c.in_ok-entries.ensures.items ∙ ap (map (λ w. w.entry)) c.into_iter-entry-iterator.ensures.into_iter_gives.0

pub loop-entry-preserved : goal.loop-entry-preserved
loop-entry-preserved g c = made_step (λ w. w.entry) _ _ c.in-Some.field-0 _ _ _ c.loop-entry.invariant c.in-Some.ensures.steps.0 c.in_ok-push.ensures.items

pub returns : goal.returns
returns g c =
    let rest = c.loop-entry.entry-iterator.rest in
    made_all (λ w. w.entry) _ _ _ c.loop-entry.invariant (no_items rest.items rest.len rest.ok.0 c.in-None.ensures.steps.0)
