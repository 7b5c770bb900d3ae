use Rattle.serde_json.specs.View.{view}
use Rattle.utoipa_base.proofs.Plain.{read_plain, write_plain}
use Rattle.utoipa_base.proofs.laws.stays_plain.Goals as goal

pub returns : goal.returns
returns g c = λ d plain is. let stays = read_plain g.T.Documented.kind (view c.args.tree.now) d plain is in (stays, write_plain d stays)
