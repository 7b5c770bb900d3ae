use Rattle.std.proofs.Common.{◌≡◌, ◌<◌, ◌≤◌, length, get_or, subst}
use Rattle.std.specs.Option.{option_or}
use Rattle.utoipa_meaning.specs.Operations.{if_so, stands_among}
use Rattle.utoipa_meaning.specs.Views.{noted, all_operations}
use Rattle.utoipa_meaning.proofs.Origins.{next_noted, all_noted}
use Rattle.utoipa_meaning.proofs.origin.note_all.Goals as goal

pub loop-operation-preserved : goal.loop-operation-preserved
loop-operation-preserved c = λ p.
    let all = c.args.operations.now.items in
    let x = c.operation-item.result in
    let within = subst (λ os. c.loop-operation.operation-index < length os) c.deref-operation-items.ensures.value c.loop-operation-test.true in
    let is = subst (λ os. x ≡ get_or os c.loop-operation.operation-index x) c.deref-operation-items.ensures.value c.operation-item.is in
    next_noted all c.loop-operation.operation-index x c.args.number (noted c.loop-operation.origins p) (noted c.note.new.origins p)
    (option_or (noted c.args.origins.now p) (if_so (stands_among p (all_operations all)) c.args.number)) p within is (c.in_ok-note.ensures p) (c.loop-operation.invariant p)

pub returns : goal.returns
returns c = λ p.
    let all = c.args.operations.now.items in
    let past = subst (λ os. length os ≤ c.loop-operation.operation-index) c.deref-operation-items.ensures.value c.loop-operation-test.false in
    all_noted all c.loop-operation.operation-index c.args.number (noted c.loop-operation.origins p)
    (option_or (noted c.args.origins.now p) (if_so (stands_among p (all_operations all)) c.args.number)) p past (c.loop-operation.invariant p)
