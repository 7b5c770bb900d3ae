use Rattle.utoipa_check.proofs.Pieces.{counted, uncounted}
use Rattle.utoipa_check.proofs.version.number_of.Goals as goal

pub returns-in-Ok : goal.returns-in-Ok
returns-in-Ok c = counted c.args.piece.now c.in-Ok.number c.in-Ok.ensures.value.0

pub returns-in-Err : goal.returns-in-Err
returns-in-Err c = uncounted c.args.piece.now c.in-Err.ensures.value.0
