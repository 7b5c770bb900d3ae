use Rattle.utoipa.proofs.document.OpenApi.to_json.Goals as goal

pub returns-clause-text : goal.returns-clause-text
returns-clause-text c = c.to_json.ensures.text

pub returns-clause-json : goal.returns-clause-json
returns-clause-json c = c.to_json.ensures.json
