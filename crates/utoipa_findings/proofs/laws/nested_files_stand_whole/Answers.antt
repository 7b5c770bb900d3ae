use Rattle.utoipa_findings.proofs.NestedWhole.{both_stand}
use Rattle.utoipa_findings.proofs.laws.nested_files_stand_whole.Goals as goal

pub returns : goal.returns
returns c = both_stand
