use Rattle.utoipa_base.proofs.Plain.{write_plain}
use Rattle.utoipa.proofs.laws.is_written_plain.Goals as goal

pub returns : goal.returns
returns g c = write_plain (g.T.Documented.doc c.args.value.now)
