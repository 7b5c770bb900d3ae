use Rattle.std.proofs.Common.{◌≡◌, ◌++◌, drop}
use Rattle.std.specs.List.{flat_map}
use Rattle.utoipa_conflicts.specs.Conflicts as specs
use Rattle.utoipa_conflicts.specs.Deciders.{noted}
use Rattle.utoipa_conflicts.specs.Views.{all_filled, all_conflicts}
use Rattle.utoipa_conflicts.proofs.conflict.put_conflicts.Given as goal

abbrev pub invariant-loop-filled : goal.invariant-loop-filled
invariant-loop-filled l =
    all_conflicts l.found.items ++ flat_map (λ s. specs.dropped_by l.number s (noted l.deciders (specs.holder s.0))) (all_filled (drop l.filled-index l.slots.items))
    ≡ all_conflicts l.initial.found.items ++ flat_map (λ s. specs.dropped_by l.number s (noted l.deciders (specs.holder s.0))) (all_filled l.slots.items)
