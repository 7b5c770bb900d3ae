use Rattle.serde_json.specs.View.{view}
use Rattle.utoipa_check.proofs.Within.{written_within}
use Rattle.utoipa_check.proofs.laws.nothing_is_written_besides.Goals as goal

pub returns : goal.returns
returns c k d = written_within k (view c.args.tree.now) d
