use Rattle.std.proofs.Common.{◌≡◌, ◌++◌, drop}
use Rattle.serde_json.specs.View.{view}
use Rattle.utoipa_check.specs.Mentioned.{all_mentioned}
use Rattle.utoipa_check.specs.Places.{fields_places, members_at}
use Rattle.utoipa_check.specs.References.{rows_mentions, mentioners}
use Rattle.utoipa_check.specs.ReferenceViews.{mentions_of, stacked_mentioned}
use Rattle.utoipa_tables.specs.Tables.{rows_of, members_of}
use Rattle.utoipa_check.proofs.referrer.mentions_by_rows.Given as goal

abbrev pub invariant-loop-row : goal.invariant-loop-row
invariant-loop-row l = record {
  inner : stacked_mentioned l.left.items ≡ all_mentioned (fields_places (members_of (drop l.row-index l.rows)) (view l.tree));
  so_far : mentions_of l.found.items ++ rows_mentions (rows_of (drop l.row-index l.rows)) (mentioners (members_at (view l.tree))) ≡ rows_mentions (rows_of l.rows) (mentioners (members_at (view l.tree)));
}
