use Rattle.utoipa_meaning.specs.Meaning.{names_in}
use Rattle.serde_json.specs.View.{view}
use Rattle.utoipa_meaning.proofs.Keys.{by_key}
use Rattle.utoipa_meaning.proofs.parameters.is_overridden.Goals as goal

pub returns-in-Some : goal.returns-in-Some
returns-in-Some c = by_key c.args.keys.now c.in-Some.key c.key_of.result (names_in (view c.args.parameter.now)) c.contains.result c.contains.ensures c.in-Some.is c.key_of.ensures
