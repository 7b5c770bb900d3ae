use Rattle.std.proofs.Common.{◌≡◌, All, take}
use Rattle.std.specs.List.{flat_map}
use Rattle.utoipa_conflicts.specs.Conflicts as specs
use Rattle.utoipa_conflicts.specs.Deciders.{trees_of}
use Rattle.utoipa_conflicts.specs.Views.{all_conflicts}
use Rattle.utoipa_conflicts.proofs.EachTree.{IsApartAtTop}
use Rattle.utoipa_conflicts.proofs.conflict.tree_conflicts.Given as goal

abbrev pub invariant-loop-number : goal.invariant-loop-number
invariant-loop-number l = record {
  listed : all_conflicts l.found.items ≡ flat_map (specs.conflicts_of (specs.numbered 0 (trees_of l.trees))) (specs.numbered 0 (trees_of (take l.number l.trees)));
  apart : All IsApartAtTop (trees_of (take l.number l.trees));
}
