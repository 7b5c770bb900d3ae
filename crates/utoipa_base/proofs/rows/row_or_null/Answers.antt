use Rattle.utoipa_base.proofs.ByRows.{field-or_null}
use Rattle.utoipa_base.proofs.rows.row_or_null.Goals as goal

pub returns : goal.returns
returns g c = rw field-or_null c.row_option.ensures
