use Rattle.std.proofs.Common.{refl}
use Rattle.utoipa_base.specs.Unambiguous.{is_unambiguous}
use Rattle.utoipa_base.proofs.UnambiguousTest.{decides}
use Rattle.utoipa_base.proofs.laws.unambiguous_exactly.Goals as goal

pub returns-clause-unambiguous : goal.returns-clause-unambiguous
returns-clause-unambiguous g c = decides (is_unambiguous (g.T.Documented.doc c.args.value.now)) (g.T.Documented.doc c.args.value.now) _ (g.met.T.Unambiguous.of_kind c.args.value.now) refl

pub returns-clause-well_formed : goal.returns-clause-well_formed
returns-clause-well_formed g c whole =
    let both = decides (is_unambiguous (g.T.Documented.doc c.args.value.now)) (g.T.Documented.doc c.args.value.now) _ (g.met.T.Unambiguous.of_kind c.args.value.now) refl in
    (λ test. (whole, both.0 test), λ well. both.1 well.1)
