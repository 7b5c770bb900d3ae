use Rattle.utoipa_schema.proofs.without_schemas.array.read_array_end.Goals as goal

pub returns-clause-ok : goal.returns-clause-ok
returns-clause-ok c = c.in_ok-fields.ensures.ok
