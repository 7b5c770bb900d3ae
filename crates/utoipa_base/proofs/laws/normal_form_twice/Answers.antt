use Rattle.utoipa_base.proofs.Twice.{normal_form_twice}
use Rattle.utoipa_base.proofs.laws.normal_form_twice.Goals as goal

pub returns : goal.returns
returns g c = normal_form_twice (g.T.Documented.doc c.args.value.now)
