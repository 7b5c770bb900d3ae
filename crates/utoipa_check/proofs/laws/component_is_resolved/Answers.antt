use Rattle.serde_json.specs.View.{view}
use Rattle.utoipa_check.specs.References.{mentions}
use Rattle.utoipa_check.proofs.Leading.{component_resolved, to_component, all_resolved}
use Rattle.utoipa_check.proofs.laws.component_is_resolved.Goals as goal

pub returns-clause-resolved : goal.returns-clause-resolved
returns-clause-resolved c led = component_resolved c.args.text.now (view c.args.tree.now) led

pub returns-clause-exact : goal.returns-clause-exact
returns-clause-exact c map name led unlisted = to_component c.args.text.now map name (view c.args.tree.now) led unlisted

pub returns-clause-listed : goal.returns-clause-listed
returns-clause-listed c k = all_resolved (view c.args.tree.now) (mentions k (view c.args.tree.now))
