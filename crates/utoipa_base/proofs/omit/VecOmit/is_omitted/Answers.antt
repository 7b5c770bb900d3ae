use Rattle.utoipa_base.proofs.Empties.{vacant_slice}
use Rattle.utoipa_base.proofs.omit.VecOmit.is_omitted.Goals as goal

pub returns : goal.returns
returns g c = vacant_slice g.T.Documented.doc _ c.as_slice.result.now c.args.self.now.items c.as_slice.ensures.value c.is_empty.ensures
