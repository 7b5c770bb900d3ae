use Rattle.serde_json.specs.View.{view}
use Rattle.utoipa_adapt.specs.Rules.{of_upgrade}
use Rattle.utoipa_adapt.proofs.AtWork.{told_at_work}
use Rattle.utoipa_adapt.proofs.Same.{made_same}
use Rattle.utoipa_adapt.proofs.Settled.{made_settled, made_once}
use Rattle.utoipa_adapt.proofs.laws.upgrading_is_told.Goals as goal

pub returns-clause-same : goal.returns-clause-same
returns-clause-same c k none = made_same of_upgrade (view c.args.tree.now) k none

pub returns-clause-settled : goal.returns-clause-settled
returns-clause-settled c k = made_settled of_upgrade (view c.args.tree.now) k

pub returns-clause-once : goal.returns-clause-once
returns-clause-once c k = made_once of_upgrade (view c.args.tree.now) k

pub returns-clause-told : goal.returns-clause-told
returns-clause-told c k = told_at_work of_upgrade (view c.args.tree.now) k
