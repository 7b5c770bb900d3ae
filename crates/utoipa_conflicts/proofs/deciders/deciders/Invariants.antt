use Rattle.std.proofs.Common.{◌≡◌, All, take}
use Rattle.utoipa_conflicts.specs.Conflicts as specs
use Rattle.utoipa_conflicts.specs.Deciders.{noted, trees_of}
use Rattle.utoipa_conflicts.specs.Holders.{IsApartWithin}
use Rattle.utoipa_conflicts.proofs.deciders.deciders.Given as goal

abbrev pub invariant-loop-number : goal.invariant-loop-number
invariant-loop-number l = record {
  decided : (h : specs.Holder) → noted l.deciders h ≡ specs.deciding h (specs.numbered 0 (trees_of (take l.number l.trees)));
  apart : All IsApartWithin (trees_of (take l.number l.trees));
}
