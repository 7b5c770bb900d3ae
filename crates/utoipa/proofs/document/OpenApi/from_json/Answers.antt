use Rattle.utoipa.proofs.TextReadings.{text_read}
use Rattle.utoipa.proofs.document.OpenApi.from_json.Goals as goal

pub returns-clause-ok : goal.returns-clause-ok
returns-clause-ok c = text_read _ c.from_json.result c.from_json.ensures.ok

pub returns-clause-err : goal.returns-clause-err
returns-clause-err c = c.from_json.ensures.err
