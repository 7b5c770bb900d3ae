use Rattle.std.proofs.Common.{◌≡◌, drop, if◌then◌else◌}
use Rattle.utoipa_conflicts.specs.Conflicts as specs
use Rattle.utoipa_conflicts.specs.Deciders.{noted, numbered_of, with_one}
use Rattle.utoipa_conflicts.specs.Holders.{is_among}
use Rattle.utoipa_conflicts.specs.Views.{all_holders}
use Rattle.utoipa_conflicts.proofs.deciders.note_all.Given as goal

abbrev pub invariant-loop-holder : goal.invariant-loop-holder
invariant-loop-holder l = (h : specs.Holder)
    → (if is_among h (all_holders (drop l.holder-index l.holders.items)) then with_one (specs.rule h) (numbered_of l.document) (noted l.deciders h) else noted l.deciders h)
    ≡ (if is_among h (all_holders l.holders.items) then with_one (specs.rule h) (numbered_of l.document) (noted l.initial.deciders h) else noted l.initial.deciders h)
