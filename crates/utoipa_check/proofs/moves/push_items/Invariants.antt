use Rattle.std.proofs.Common.{◌≡◌, ◌++◌, drop}
use Rattle.serde_json.specs.View.{view, items_view}
use Rattle.utoipa_check.specs.Moves.{items_moves}
use Rattle.utoipa_check.specs.DroppedViews.{moves_of}
use Rattle.utoipa_check.proofs.moves.push_items.Given as goal

abbrev pub invariant-loop-item : goal.invariant-loop-item
invariant-loop-item l = record {
  counted : l.index ≡ l.item-index;
  pushed : moves_of l.moves.items ++ items_moves l.item-index (items_view (drop l.item-index l.items.items)) (view l.written) ≡ moves_of l.initial.moves.items ++ items_moves 0 (items_view l.items.items) (view l.written);
}
