use Rattle.std.proofs.Common.{sym, arith, true, false}
use Rattle.serde_json.specs.View.{view}
use Rattle.utoipa_check.proofs.ByRows.{rows_from, rows_fit_from}
use Rattle.utoipa_check.proofs.rows.fits_rows.Goals as goal

pub returns-in-None : goal.returns-in-None
returns-in-None c =
    let d = view c.args.tree.now in
    let first = rows_from c.args.rows.now c.loop-row.row-index _ d _ c.loop-row-test.true c.loop-row.invariant.inner in
    sym (rows_fit_from c.args.rows.now c.loop-row.row-index _ d _ false c.loop-row-test.true c.loop-row.invariant.so_far (c.in-None.ensures _ first))

pub loop-row-preserved : goal.loop-row-preserved
loop-row-preserved c =
    let d = view c.args.tree.now in
    let first = rows_from c.args.rows.now c.loop-row.row-index _ d _ c.loop-row-test.true c.loop-row.invariant.inner in
    let fits = c.in-Some.ensures _ first in
    record {
      within = omega (arith, fits.1, c.loop-row.invariant.within);
      inner = fits.0;
      so_far = rows_fit_from c.args.rows.now c.loop-row.row-index _ d _ true c.loop-row-test.true c.loop-row.invariant.so_far fits.2;
    }
