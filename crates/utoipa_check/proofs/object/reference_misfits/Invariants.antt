use Rattle.std.proofs.Common.{◌≡◌, ◌++◌, drop, true}
use Rattle.serde_json.specs.View.{view}
use Rattle.utoipa_base.specs.Kinds.{reference_object}
use Rattle.utoipa_check.specs.Misfits.{rows_misfits, table_misfits, checks}
use Rattle.utoipa_check.specs.Places.{members_at}
use Rattle.utoipa_check.specs.Rows.{all_plain}
use Rattle.utoipa_check.specs.Views.{misfits_of}
use Rattle.utoipa_tables.specs.Tables.{rows_of, members_of}
use Rattle.utoipa_check.proofs.object.reference_misfits.Given as goal

abbrev pub invariant-loop-row : goal.invariant-loop-row
invariant-loop-row l = record {
  plain : all_plain (members_of (drop l.row-index l.rows)) ≡ true;
  so_far : misfits_of l.found.items ++ rows_misfits (rows_of (drop l.row-index l.rows)) (checks (members_at (view l.tree))) ≡ table_misfits reference_object (checks (members_at (view l.tree)));
}
