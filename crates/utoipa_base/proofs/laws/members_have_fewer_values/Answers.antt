use Rattle.serde_json.specs.View.{view}
use Rattle.utoipa_base.proofs.Values.{names_fewer}
use Rattle.utoipa_base.proofs.laws.members_have_fewer_values.Goals as goal

pub returns : goal.returns
returns c = λ names. names_fewer names (view c.args.tree.now)
