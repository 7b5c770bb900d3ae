use Rattle.utoipa.proofs.OwnSchemas.{struct_made}
use Rattle.utoipa.proofs.own_schemas.Fields.schema.Goals as goal

pub returns : goal.returns
returns c = struct_made c.new-object.result c.new-object.ensures c.args.self.required c.args.self.properties
