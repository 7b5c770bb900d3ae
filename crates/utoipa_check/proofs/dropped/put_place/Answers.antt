use Rattle.std.proofs.Common.{arith}
use Rattle.utoipa_check.specs.declared.dropped.Dropped.{Dropped}
use Rattle.utoipa_check.proofs.DroppedWalks.{place_put, all_copied}
use Rattle.utoipa_check.proofs.dropped.put_place.Goals as goal

pub returns : goal.returns
returns c =
    let p : Dropped = record { pointer = record { steps = c.reverse.new.self }; loss = c.args.loss } in
    let copied = all_copied c.loop-step.steps.items c.args.path.now.items c.loop-step.step-index c.loop-step.invariant (omega arith) in
    place_put c.args.path.now.items c.args.found.now.items c.push-2.new.self.items p c.loop-step.steps.items copied c.reverse.ensures.items c.in_ok-push-2.ensures.items
