use Rattle.utoipa_meaning.specs.Meaning.{names_in}
use Rattle.serde_json.specs.View.{view}
use Rattle.utoipa_meaning.proofs.Keys.{noted_key}
use Rattle.utoipa_meaning.proofs.parameters.note.Goals as goal

pub returns-in_ok-insert : goal.returns-in_ok-insert
returns-in_ok-insert c = noted_key c.args.keys.now c.insert.new.self c.in-Some.key c.key_of.result (names_in (view c.args.parameter.now)) c.in_ok-insert.ensures.keys c.in-Some.is c.key_of.ensures
