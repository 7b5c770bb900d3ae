use Rattle.utoipa_merging.proofs.Unique.{brackets_agree}
use Rattle.utoipa_merging.proofs.laws.brackets_agree.Goals as goal

pub returns : goal.returns
returns c = brackets_agree
