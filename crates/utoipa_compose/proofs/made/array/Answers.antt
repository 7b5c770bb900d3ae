use Rattle.utoipa_compose.proofs.MadeDocuments.{array_with}
use Rattle.utoipa_compose.proofs.made.array.Goals as goal

pub returns : goal.returns
returns c = array_with c.args.items c.in_ok-array.array c.in_ok-array.ensures c.args.unique
