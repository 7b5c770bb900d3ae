use Rattle.std.proofs.Common.{◌≡◌, ◌++◌, drop}
use Rattle.serde_json.specs.View.{view}
use Rattle.utoipa_check.specs.Misfits.{rows_misfits, checks}
use Rattle.utoipa_check.specs.Places.{outcomes, fields_places, members_at}
use Rattle.utoipa_check.specs.Views.{misfits_of, stacked}
use Rattle.utoipa_tables.specs.Tables.{rows_of, members_of}
use Rattle.utoipa_check.proofs.rows.misfits_by_rows.Given as goal

abbrev pub invariant-loop-row : goal.invariant-loop-row
invariant-loop-row l = record {
  inner : stacked l.left.items ≡ outcomes (fields_places (members_of (drop l.row-index l.rows)) (view l.tree));
  so_far : misfits_of l.found.items ++ rows_misfits (rows_of (drop l.row-index l.rows)) (checks (members_at (view l.tree))) ≡ rows_misfits (rows_of l.rows) (checks (members_at (view l.tree)));
}
