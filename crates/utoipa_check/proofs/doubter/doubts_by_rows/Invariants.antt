use Rattle.std.proofs.Common.{◌≡◌, ◌++◌, drop}
use Rattle.serde_json.specs.View.{view}
use Rattle.utoipa_check.specs.Doubted.{all_doubted}
use Rattle.utoipa_check.specs.Doubts.{rows_doubts, doubters}
use Rattle.utoipa_check.specs.Places.{fields_places, members_at}
use Rattle.utoipa_check.specs.Views.{misfits_of, stacked}
use Rattle.utoipa_tables.specs.Tables.{rows_of, members_of}
use Rattle.utoipa_check.proofs.doubter.doubts_by_rows.Given as goal

abbrev pub invariant-loop-row : goal.invariant-loop-row
invariant-loop-row l = record {
  inner : stacked l.left.items ≡ all_doubted (fields_places (members_of (drop l.row-index l.rows)) (view l.tree));
  so_far : misfits_of l.found.items ++ rows_doubts (rows_of (drop l.row-index l.rows)) (doubters (members_at (view l.tree))) ≡ rows_doubts (rows_of l.rows) (doubters (members_at (view l.tree)));
}
