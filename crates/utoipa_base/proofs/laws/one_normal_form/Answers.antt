use Rattle.utoipa_base.proofs.ReadsBack.{one_normal_form}
use Rattle.utoipa_base.proofs.laws.one_normal_form.Goals as goal

pub returns : goal.returns
returns g c =
    λ left right. one_normal_form (g.T.Documented.doc c.args.left.now) (g.T.Documented.doc c.args.right.now) g.T.Documented.kind
    (g.met.T.Tree.is_of_kind c.args.left.now) left (g.met.T.Tree.is_of_kind c.args.right.now) right
