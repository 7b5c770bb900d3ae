use Rattle.std.proofs.Common.{◌≡◌, ◌≤◌, drop, take, length}
use Rattle.serde_json.specs.View.{view}
use Rattle.utoipa_check.specs.Misfits.{is_fit, rows_misfits, checks}
use Rattle.utoipa_check.specs.Places.{outcomes, fields_places, members_at}
use Rattle.utoipa_check.specs.Views.{stacked}
use Rattle.utoipa_tables.specs.Tables.{rows_of, members_of}
use Rattle.utoipa_check.proofs.rows.fits_rows.Given as goal

abbrev pub invariant-loop-row : goal.invariant-loop-row
invariant-loop-row l = record {
  within : l.left ≤ length l.inner;
  inner : stacked (take l.left l.inner) ≡ outcomes (fields_places (members_of (drop l.row-index l.rows)) (view l.tree));
  so_far : is_fit (rows_misfits (rows_of l.rows) (checks (members_at (view l.tree)))) ≡ is_fit (rows_misfits (rows_of (drop l.row-index l.rows)) (checks (members_at (view l.tree))));
}
