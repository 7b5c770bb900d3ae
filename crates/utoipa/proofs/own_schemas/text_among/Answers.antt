use Rattle.utoipa.proofs.OwnSchemas.{texts_made}
use Rattle.utoipa.proofs.own_schemas.text_among.Goals as goal

pub returns : goal.returns
returns c = texts_made c.with_type-object.result c.with_type-object.ensures c.in_ok-values.values _ c.in_ok-values.ensures
