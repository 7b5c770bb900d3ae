use Rattle.std.proofs.Common.{refl}
use Rattle.std.proofs.lemmas.Result.{IfOk-weaker}
use Rattle.utoipa_schema_parts.proofs.types.SchemaTypeFromIteratorTypeWord.from_iter.Goals as goal

pub returns : goal.returns
returns g c =
    record {
      ran =
          IfOk-weaker c.from_types.result _ _
          (λ t made.
          let drained = made.1.2 in (
            made.1.0,
            made.0.items,
            made.1.1,
            (drained.1.0, drained.1.1, λ w. (drained.0, drained.1.2)),
            (made.0, refl, made.2),
          ))
          c.from_types.ensures;
    }
