use Rattle.utoipa_base.proofs.Plain.{write_plain}
use Rattle.utoipa_base.proofs.ReadsBack.{reads_back}
use Rattle.utoipa_base.proofs.laws.reads_back.Goals as goal

pub returns-clause-well_formed : goal.returns-clause-well_formed
returns-clause-well_formed g c =
    let d = g.T.Documented.doc c.args.value.now in
    λ h. (write_plain d h.0, reads_back d g.T.Documented.kind (g.met.T.Tree.is_of_kind c.args.value.now) h.1)

pub returns-clause-with_fractions : goal.returns-clause-with_fractions
returns-clause-with_fractions g c = reads_back (g.T.Documented.doc c.args.value.now) g.T.Documented.kind (g.met.T.Tree.is_of_kind c.args.value.now)
