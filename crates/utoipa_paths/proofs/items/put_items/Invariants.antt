use Rattle.std.proofs.Common.{string_cmp}
use Rattle.std.specs.Option.{option_or}
use Rattle.std.specs.List.Sorted.{IsStrictlySortedBy}
use Rattle.std.specs.Map.{keys_of}
use Rattle.std.specs.BTreeMap.{get_by_text}
use Rattle.utoipa_merging.proofs.ItemWalks.{slot_in, MergedSoFar}
use Rattle.utoipa_path.specs.Docs.{path_item_doc}
use Rattle.utoipa_paths.specs.Items.{AreItemsInOrder}
use Rattle.utoipa_paths.proofs.ItemSteps.{AreComingInOrder}
use Rattle.utoipa_paths.proofs.items.put_items.Given as goal

abbrev pub invariant-loop-path : goal.invariant-loop-path
invariant-loop-path l = record {
  sorted : IsStrictlySortedBy string_cmp (keys_of l.path-iterator);
  merged : MergedSoFar path_item_doc (λ q s. option_or (slot_in path_item_doc s (get_by_text l.initial.items q)) (slot_in path_item_doc s (get_by_text l.fn.later q))) (get_by_text l.items) l.path-iterator;
  in_order : AreItemsInOrder l.initial.items → AreItemsInOrder l.fn.later → AreItemsInOrder l.items × AreComingInOrder l.path-iterator;
}
