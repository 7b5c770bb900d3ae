use Rattle.utoipa_merging.proofs.UnambiguousMerged.{merged_unambiguous}
use Rattle.utoipa_merging.proofs.WellFormedMerged.{merged_well_formed}
use Rattle.utoipa_merging.proofs.laws.merged_stays_well_formed.Goals as goal

pub returns-clause-well_formed : goal.returns-clause-well_formed
returns-clause-well_formed c = merged_well_formed

pub returns-clause-unambiguous : goal.returns-clause-unambiguous
returns-clause-unambiguous c = merged_unambiguous
