use Rattle.utoipa_base.proofs.ReadsBack.{reads_back}
use Rattle.utoipa_base.proofs.UnambiguousTest.{tested}
use Rattle.utoipa_base.proofs.laws.comes_back.Goals as goal

pub returns : goal.returns
returns g c test =
    let of_kind = g.met.T.Unambiguous.of_kind c.args.value.now in
    reads_back (g.T.Documented.doc c.args.value.now) g.T.Documented.kind of_kind (tested (g.T.Documented.doc c.args.value.now) _ of_kind test)
