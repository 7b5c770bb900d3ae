use Rattle.std.proofs.Common.{◌≤◌, ◌+◌, ◌∷◌, [], reverse}
use Rattle.serde_json.specs.View.{view}
use Rattle.utoipa_base.specs.Values.{values}
use Rattle.utoipa_check.specs.Misfits.{at_index}
use Rattle.utoipa_check.specs.Places.{place, outcome, Reaches, values_left, work_left}
use Rattle.utoipa_check.specs.Views.{stacked, tasks_of, target_of}
use Rattle.utoipa_check.proofs.walk.walk.Given as goal

abbrev pub invariant-walk : goal.invariant-walk
invariant-walk l = record {
  reaches : Reaches outcome (outcome (place (at_index 0) (target_of l.fn.target) (view l.fn.tree)) ∷ []) (reverse (tasks_of l.tasks.items)) (stacked l.outcomes.items);
  counted : l.visits + values_left (tasks_of l.tasks.items) ≤ l.initial.visits + values (view l.fn.tree);
}

abbrev pub decreases-walk : goal.decreases-walk
decreases-walk l = work_left (tasks_of l.tasks.items)
