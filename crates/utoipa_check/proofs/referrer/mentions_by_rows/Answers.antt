use Rattle.serde_json.specs.View.{view}
use Rattle.utoipa_check.proofs.ByMentions.{mentions_rows_from, mentions_rows_step}
use Rattle.utoipa_check.proofs.referrer.mentions_by_rows.Goals as goal

pub loop-row-preserved : goal.loop-row-preserved
loop-row-preserved c =
    let d = view c.args.tree.now in
    let first = mentions_rows_from c.args.rows.now c.loop-row.row-index _ d _ c.loop-row-test.true c.loop-row.invariant.inner in
    let put = c.in_ok-put_row_mentions.ensures _ first in
    record { inner = put.0; so_far = mentions_rows_step c.args.rows.now c.loop-row.row-index _ d _ _ _ c.loop-row.invariant.so_far c.loop-row-test.true put.1 }
