use Rattle.std.proofs.Common.{arith, None}
use Rattle.std.proofs.lemmas.Str.Pattern.{strip_prefix_char}
use Rattle.serde_json.specs.View.{view}
use Rattle.utoipa_check.proofs.Leading.{of_other}
use Rattle.utoipa_check.proofs.referring.reference_state.Goals as goal

pub returns-in-None : goal.returns-in-None
returns-in-None c = of_other c.args.text.now (view c.args.tree.now) (strip_prefix_char 35 c.args.text.now None c.in-None.ensures.cases (omega arith))
