use Rattle.std.proofs.Common.{◌≡◌, ◌++◌, drop}
use Rattle.serde_json.specs.View.{view}
use Rattle.utoipa_check.specs.Places.{visits, fields_places}
use Rattle.utoipa_check.specs.Views.{tasks_of}
use Rattle.utoipa_tables.specs.Tables.{members_of}
use Rattle.utoipa_check.proofs.task.push_rows.Given as goal

abbrev pub invariant-loop-row : goal.invariant-loop-row
invariant-loop-row l = tasks_of l.tasks.items ++ visits (fields_places (members_of (drop l.row-index l.rows)) (view l.tree)) ≡ tasks_of l.initial.tasks.items ++ visits (fields_places (members_of l.rows) (view l.tree))
