use Rattle.utoipa_merging.proofs.WellFormedMerged.{nested_unambiguous_iff, nested_well_formed_iff}
use Rattle.utoipa_merging.proofs.laws.nested_stays_well_formed.Goals as goal

pub returns-clause-well_formed : goal.returns-clause-well_formed
returns-clause-well_formed c = nested_well_formed_iff

pub returns-clause-unambiguous : goal.returns-clause-unambiguous
returns-clause-unambiguous c = nested_unambiguous_iff
