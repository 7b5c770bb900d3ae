use Rattle.std.proofs.Common.{◌∙◌}
use Rattle.utoipa_components.proofs.builder.ComponentsBuilder.schema_from.Goals as goal

pub returns-clause-ok : goal.returns-clause-ok
returns-clause-ok g c =
    let put = c.in_ok-schema-2.ensures in
    (c.in_ok-name.name, c.in_ok-schema.schema, put.0, c.in_ok-name.ensures.ok ∙ c.name.ensures, c.in_ok-schema.ensures.ok, put.1, put.2)
