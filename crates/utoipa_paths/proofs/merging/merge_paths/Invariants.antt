use Rattle.std.proofs.Common.{◌≡◌, ◌++◌, map}
use Rattle.std.specs.List.{AllByRecursion}
use Rattle.utoipa_merging.specs.Merged.{ArePathsMerged, ArePathsInOrder}
use Rattle.utoipa_paths.specs.Paths.{paths_doc}
use Rattle.utoipa_paths.proofs.merging.merge_paths.Given as goal

abbrev pub invariant-loop-paths : goal.invariant-loop-paths
invariant-loop-paths l = record {
  passed : l.yielded ++ l.paths-iterator.rest.items ≡ l.fn.all.items;
  merged : ArePathsMerged (map paths_doc l.yielded) (paths_doc l.merged);
  in_order : AllByRecursion (λ paths. ArePathsInOrder (paths_doc paths)) l.yielded → ArePathsInOrder (paths_doc l.merged);
}
