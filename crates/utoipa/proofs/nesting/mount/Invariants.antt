use Rattle.utoipa_base.specs.Views.{map_of_docs, pairs_of}
use Rattle.utoipa_merging.specs.Slots.{entries_in}
use Rattle.utoipa_path.specs.Docs.{path_item_doc}
use Rattle.utoipa_paths.specs.Items.{AreItemsInOrder}
use Rattle.utoipa_paths.proofs.ItemSteps.{AreComingInOrder}
use Rattle.utoipa.proofs.Mounted.{AreMountedSoFar}
use Rattle.utoipa.proofs.nesting.mount.Given as goal

abbrev pub invariant-loop-path : goal.invariant-loop-path
invariant-loop-path g l = record {
  mounted : AreMountedSoFar g.F.Fn l.composer l.base (entries_in (map_of_docs path_item_doc l.fn.nested)) (pairs_of path_item_doc l.path-iterator) (map_of_docs path_item_doc l.fn.items) (map_of_docs path_item_doc l.items);
  in_order : AreItemsInOrder l.fn.items → AreItemsInOrder l.fn.nested → AreItemsInOrder l.items × AreComingInOrder l.path-iterator;
}
