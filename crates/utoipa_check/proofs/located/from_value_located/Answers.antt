use Rattle.std.proofs.Common.{subst}
use Rattle.serde_json.specs.View.{view}
use Rattle.utoipa_check.specs.Located.{IsPlaceOf}
use Rattle.utoipa_check.proofs.Told.{always_told, reader_refuses}
use Rattle.utoipa_check.proofs.located.from_value_located.Goals as goal

pub returns-in-Err-clause-err : goal.returns-in-Err-clause-err
returns-in-Err-clause-err g c =
    let k = g.T.Documented.kind in
    let t = view c.args.tree.now in
    c.located.ensures.refused k (reader_refuses k t c.from_value.result c.in-Err.fault c.in-Err.is c.from_value.ensures.fraction c.from_value.ensures.err)

pub returns-in-Err-clause-told : goal.returns-in-Err-clause-told
returns-in-Err-clause-told g c = λ same.
    let t = view c.args.tree.now in
    always_told g.T.Documented.kind t _ _ (returns-in-Err-clause-err g c) (subst (λ k. IsPlaceOf k t c.located.result.fault c.located.result.place) same c.located.ensures.place)
