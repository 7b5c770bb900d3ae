use Rattle.std.proofs.Common.{◌≡◌, ◌∷◌, [], length, reverse}
use Rattle.serde_json.specs.View.{view}
use Rattle.utoipa_check.specs.Doubted.{doubted}
use Rattle.utoipa_check.specs.Misfits.{at_index}
use Rattle.utoipa_check.specs.Places.{of_kind, place, outcome, Reaches, work_left}
use Rattle.utoipa_check.specs.Views.{stacked, tasks_of}
use Rattle.utoipa_tables.specs.Tables.{kind_of}
use Rattle.utoipa_check.proofs.doubt.doubts.Given as goal

abbrev pub invariant-walk : goal.invariant-walk
invariant-walk l = record {
  misfits : Reaches outcome (outcome (place (at_index 0) (of_kind (kind_of l.fn.kind)) (view l.fn.tree)) ∷ []) (reverse (tasks_of l.tasks.items)) (stacked l.outcomes.items);
  doubts : Reaches doubted (doubted (place (at_index 0) (of_kind (kind_of l.fn.kind)) (view l.fn.tree)) ∷ []) (reverse (tasks_of l.tasks.items)) (stacked l.found.items);
  beside : length l.found.items ≡ length l.outcomes.items;
}

abbrev pub decreases-walk : goal.decreases-walk
decreases-walk l = work_left (tasks_of l.tasks.items)
