use Rattle.utoipa_schema.proofs.without_schemas.content.read_text_content.Goals as goal

pub returns-clause-ok : goal.returns-clause-ok
returns-clause-ok c = c.in_ok-fields.ensures.ok
