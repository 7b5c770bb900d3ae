use Rattle.utoipa.proofs.document.OpenApi.to_pretty_json.Goals as goal

pub returns-clause-text : goal.returns-clause-text
returns-clause-text c = c.to_pretty_json.ensures.text

pub returns-clause-reads_back : goal.returns-clause-reads_back
returns-clause-reads_back c = c.to_pretty_json.ensures.reads_back
