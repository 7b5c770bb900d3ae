use Rattle.serde_json.specs.View.{view}
use Rattle.utoipa_base.specs.References.{target_of}
use Rattle.utoipa_base.proofs.ComponentsFound as found
use Rattle.utoipa_base.proofs.laws.component_stands_there.Goals as goal

pub returns : goal.returns
returns c map name = found.component_stands_there (target_of c.args.location.now) map name (view c.args.tree.now)
