use Rattle.std.proofs.Common.{string_cmp}
use Rattle.std.specs.List.Sorted.{IsStrictlySortedBy}
use Rattle.std.specs.Map.{keys_of}
use Rattle.std.specs.BTreeMap.{get_by_text}
use Rattle.utoipa_paths.specs.Items.{AreItemsInOrder}
use Rattle.utoipa_paths.proofs.ItemSteps.{MergedOverSoFar, AreComingInOrder}
use Rattle.utoipa_paths.proofs.items.merged_items.Given as goal

abbrev pub invariant-loop-path : goal.invariant-loop-path
invariant-loop-path l = record {
  sorted : IsStrictlySortedBy string_cmp (keys_of l.path-iterator);
  over : MergedOverSoFar (get_by_text l.fn.items) (get_by_text l.fn.later) (get_by_text l.merged) l.path-iterator;
  in_order : AreItemsInOrder l.fn.items → AreItemsInOrder l.fn.later → AreItemsInOrder l.merged × AreComingInOrder l.path-iterator;
}
