use Rattle.std.proofs.Common.{arith}
use Rattle.utoipa_base.proofs.RowLists.{first_refused, later_refused, rows_from-first, passes_reads, both_read}
use Rattle.utoipa_base.proofs.table.Tuple2RowFields.read.Goals as goal

pub returns-in_err-first : goal.returns-in_err-first
returns-in_err-first g c =
    rw (rows_from-first g.H.RowField.line g.R.RowFields.rows c.args.names.now _ c.requires)
    (passes_reads _ _ _ _ _ _ _ _ _ _ _ c.from_residual.ensures.1 c.in_err-first.ensures (first_refused _ _ _) (omega arith) (omega arith))

pub returns-in_err-rest : goal.returns-in_err-rest
returns-in_err-rest g c =
    rw (rows_from-first g.H.RowField.line g.R.RowFields.rows c.args.names.now _ c.requires)
    (passes_reads _ _ _ _ _ _ _ _ _ _ _ c.from_residual-in_err-rest.ensures.1 c.in_err-rest.ensures (later_refused _ _ _) c.in_ok-first.ensures.grows (let h = c.in_ok-first.ensures.at_most in omega arith))

pub returns : goal.returns
returns g c =
    rw (rows_from-first g.H.RowField.line g.R.RowFields.rows c.args.names.now _ c.requires)
    (both_read _ _ _ _ _ _ _ _ _ _ c.in_ok-first.ensures c.in_ok-rest.ensures)
