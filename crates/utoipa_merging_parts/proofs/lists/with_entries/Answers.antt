use Rattle.utoipa_merging_parts.proofs.Added.{none_added, one_added, all_added}
use Rattle.utoipa_merging_parts.proofs.Walks.{no_items}
use Rattle.utoipa_merging_parts.proofs.lists.with_entries.Goals as goal

pub loop-text-init : goal.loop-text-init
loop-text-init g c = none_added g.T.Documented.doc c.args.joined _ _ c.requires.sound c.requires.written c.into_iter-text-iterator.ensures.into_iter_gives.0

pub loop-text-preserved : goal.loop-text-preserved
loop-text-preserved g c =
    one_added g.T.Documented.doc c.args.joined _ _ _ c.loop-text.joined record { entries = c.push.new.self; places = c.insert.new.self } c.in-Some.field-0 _ c.loop-text.invariant c.in-Some.ensures.steps.0 c.in_ok-insert.ensures.entries c.in_ok-push.ensures.items

pub returns-clause-sound : goal.returns-clause-sound
returns-clause-sound g c = c.loop-text.invariant.sound

pub returns-clause-entries : goal.returns-clause-entries
returns-clause-entries g c =
    let rest = c.loop-text.text-iterator.rest in
    all_added g.T.Documented.doc c.args.joined _ _ c.loop-text.joined c.loop-text.invariant (no_items rest.items rest.len rest.ok.0 c.in-None.ensures.steps.0)
