use Rattle.std.proofs.Common.{◌≡◌, ◌++◌, drop}
use Rattle.serde_json.specs.View.{items_view}
use Rattle.utoipa_check.specs.Places.{visits, items_places}
use Rattle.utoipa_check.specs.Views.{tasks_of, target_of}
use Rattle.utoipa_check.proofs.task.push_items.Given as goal

abbrev pub invariant-loop-item : goal.invariant-loop-item
invariant-loop-item l = record {
  counted : l.index ≡ l.item-index;
  pushed : tasks_of l.tasks.items ++ visits (items_places (target_of l.target) l.item-index (items_view (drop l.item-index l.items.items))) ≡ tasks_of l.initial.tasks.items ++ visits (items_places (target_of l.target) 0 (items_view l.items.items));
}
