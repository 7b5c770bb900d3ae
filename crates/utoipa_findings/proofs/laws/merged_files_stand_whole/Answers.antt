use Rattle.utoipa_findings.proofs.MergedWhole.{all_stand_in}
use Rattle.utoipa_findings.proofs.laws.merged_files_stand_whole.Goals as goal

pub returns : goal.returns
returns c = all_stand_in
