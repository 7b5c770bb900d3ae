use Rattle.std.proofs.Common.{ap, sym, codes, option_map}
use Rattle.utoipa_base.proofs.Fronts.{lacks}
use Rattle.utoipa_outline.specs.Used.{token}
use Rattle.utoipa_outline.proofs.used.schema_token.Goals as goal

pub returns-in-None : goal.returns-in-None
returns-in-None c = sym (ap (option_map token) (lacks (codes "/components/schemas/") c.args.pointer.now c.in-None.ensures.cases))
