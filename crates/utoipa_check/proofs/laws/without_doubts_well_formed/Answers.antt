use Rattle.serde_json.specs.View.{view}
use Rattle.utoipa_check.proofs.Undoubted.{undoubted_unambiguous, undoubted_well_formed}
use Rattle.utoipa_check.proofs.laws.without_doubts_well_formed.Goals as goal

pub returns-clause-well_formed : goal.returns-clause-well_formed
returns-clause-well_formed c k d = undoubted_well_formed k (view c.args.tree.now) d

pub returns-clause-with_fractions : goal.returns-clause-with_fractions
returns-clause-with_fractions c k d = undoubted_unambiguous k (view c.args.tree.now) d
