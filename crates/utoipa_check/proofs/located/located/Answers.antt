use Rattle.serde_json.specs.View.{view}
use Rattle.utoipa_check.proofs.located.located.Goals as goal

pub returns-in-Ok-clause-refused : goal.returns-in-Ok-clause-refused
returns-in-Ok-clause-refused c = λ k refused. c.fault_told-fault.ensures.refused k (view c.args.tree.now) refused
