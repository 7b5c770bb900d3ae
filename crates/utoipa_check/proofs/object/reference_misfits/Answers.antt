use Rattle.serde_json.specs.View.{view}
use Rattle.utoipa_check.proofs.ByRows.{rows_step}
use Rattle.utoipa_check.proofs.ReferenceObjects.{plain_from, plain_rest}
use Rattle.utoipa_check.proofs.object.reference_misfits.Goals as goal

pub put_plain_row-requires : goal.put_plain_row-requires
put_plain_row-requires c = (plain_from c.rows-rows.result.now c.loop-row.row-index _ c.loop-row-test.true c.loop-row.invariant.plain).0

pub loop-row-preserved : goal.loop-row-preserved
loop-row-preserved c =
    record {
      plain = plain_rest c.rows-rows.result.now c.loop-row.row-index c.loop-row-test.true c.loop-row.invariant.plain;
      so_far = rows_step c.rows-rows.result.now c.loop-row.row-index _ (view c.args.tree.now) _ _ _ c.loop-row.invariant.so_far c.loop-row-test.true c.in_ok-put_plain_row.ensures;
    }
