use Rattle.serde_json.specs.View.{view}
use Rattle.utoipa_check.proofs.ByDoubts.{doubts_rows_from, doubts_rows_step}
use Rattle.utoipa_check.proofs.doubter.doubts_by_rows.Goals as goal

pub loop-row-preserved : goal.loop-row-preserved
loop-row-preserved c =
    let d = view c.args.tree.now in
    let first = doubts_rows_from c.args.rows.now c.loop-row.row-index _ d _ c.loop-row-test.true c.loop-row.invariant.inner in
    let put = c.in_ok-put_row_doubts.ensures _ first in
    record { inner = put.0; so_far = doubts_rows_step c.args.rows.now c.loop-row.row-index _ d _ _ _ c.loop-row.invariant.so_far c.loop-row-test.true put.1 }
