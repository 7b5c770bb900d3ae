use Rattle.std.proofs.Common.{◌≡◌, drop}
use Rattle.std.specs.Slice.Iter.{iter_rest}
use Rattle.utoipa_meaning.specs.Changes.{same_trees}
use Rattle.utoipa_meaning.specs.Views.{borrowed}
use Rattle.utoipa_meaning.proofs.parameters.same_trees.Given as goal

abbrev pub invariant-loop-tree : goal.invariant-loop-tree
invariant-loop-tree l = same_trees (borrowed l.tree-items) (borrowed (iter_rest l.initial.others)) ≡ same_trees (borrowed (drop l.tree-index l.tree-items)) (borrowed (iter_rest l.others))
