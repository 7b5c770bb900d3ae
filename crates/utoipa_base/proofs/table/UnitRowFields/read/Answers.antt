use Rattle.utoipa_base.proofs.RowLists.{none_read}
use Rattle.utoipa_base.proofs.table.UnitRowFields.read.Goals as goal

pub returns : goal.returns
returns c = none_read _ _ _
