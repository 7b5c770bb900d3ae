use Rattle.utoipa_merging.proofs.ReadShapes.{read_depth, read_of_kind}
use Rattle.utoipa_merging.proofs.laws.what_is_read_fits.Goals as goal

pub returns-clause-of_kind : goal.returns-clause-of_kind
returns-clause-of_kind c = read_of_kind

pub returns-clause-depth : goal.returns-clause-depth
returns-clause-depth c = read_depth
