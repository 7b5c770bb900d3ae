use Rattle.utoipa_merging_parts.proofs.NewEntries.{none_kept, one_kept, one_passed, all_kept}
use Rattle.utoipa_merging_parts.proofs.Walks.{no_items}
use Rattle.utoipa_merging_parts.proofs.lists.new_entries.Goals as goal

pub loop-entry-init : goal.loop-entry-init
loop-entry-init g c = none_kept g.T.Documented.doc _ _ _ _ c.requires.plain c.into_iter-entry-iterator.ensures.into_iter_gives.0 c.new-new.ensures.items

pub loop-entry-preserved-in-Continue-branch-2 : goal.loop-entry-preserved-in-Continue-branch-2
loop-entry-preserved-in-Continue-branch-2 g c =
    one_kept g.T.Documented.doc _ _ _ _ _ _ c.in-Some.entry c.in_ok-entry.entry c.has_same.result c.loop-entry.invariant c.in-Some.ensures.steps.0 c.in_ok-entry.ensures.entry c.in_ok-entry.ensures.written c.in_ok-push.ensures.items
    c.has_same.ensures c.if-not-has_same.true

pub loop-entry-preserved : goal.loop-entry-preserved
loop-entry-preserved g c =
    one_passed g.T.Documented.doc _ _ _ _ _ c.in-Some.entry c.in_ok-entry.entry c.has_same.result c.loop-entry.invariant c.in-Some.ensures.steps.0 c.in_ok-entry.ensures.entry c.has_same.ensures c.if-not-has_same.false

pub returns-clause-new : goal.returns-clause-new
returns-clause-new g c =
    let rest = c.loop-entry.entry-iterator.rest in
    all_kept g.T.Documented.doc _ _ _ _ c.loop-entry.invariant (no_items rest.items rest.len rest.ok.0 c.in-None.ensures.steps.0)
