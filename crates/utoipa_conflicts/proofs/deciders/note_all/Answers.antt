use Rattle.std.proofs.Common.{◌∙◌, subst, ◌<◌, length}
use Rattle.utoipa_conflicts.specs.Deciders.{noted, numbered_of}
use Rattle.utoipa_conflicts.specs.declared.holder.Holder.TheVariants as variants
use Rattle.utoipa_conflicts.proofs.Noting.{next_noted}
use Rattle.utoipa_conflicts.proofs.deciders.note_all.Goals as goal

pub loop-holder-preserved : goal.loop-holder-preserved
loop-holder-preserved c = λ h.
    let all = c.args.holders.now.items in
    let within = subst (λ hs. c.loop-holder.holder-index < length hs) c.deref-holder-items.ensures.value c.loop-holder-test.true in
    next_noted all c.loop-holder.holder-index variants.Document (numbered_of c.args.document) (noted c.loop-holder.deciders h) (noted c.note.new.deciders h) h within (rw (← c.deref-holder-items.ensures.value) (c.in_ok-note.ensures h))
    ∙ c.loop-holder.invariant h
