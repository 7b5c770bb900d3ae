use Rattle.std.proofs.Common.{◌≡◌, ◌++◌, reverse}
use Rattle.serde_json.specs.View.{view}
use Rattle.utoipa_check.specs.Dropped.{dropped}
use Rattle.utoipa_check.specs.Moves.{left, work_left}
use Rattle.utoipa_check.specs.DroppedViews.{all_dropped, stacked, moves_of, path_of}
use Rattle.utoipa_check.proofs.dropped.dropped_between.Given as goal

abbrev pub invariant-walk : goal.invariant-walk
invariant-walk l = left (path_of l.path.items) (stacked l.moves.items) ++ reverse (all_dropped l.found.items) ≡ dropped (view l.fn.tree) (view l.fn.written)

abbrev pub decreases-walk : goal.decreases-walk
decreases-walk l = work_left (moves_of l.moves.items)
