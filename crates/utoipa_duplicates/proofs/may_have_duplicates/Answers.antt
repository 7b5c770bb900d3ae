use Rattle.json.specs.Json.{document}
use Rattle.utoipa_duplicates.proofs.Unique.{none_in_value}
use Rattle.utoipa_duplicates.proofs.may_have_duplicates.Goals as goal

pub returns-in-Ok : goal.returns-in-Ok
returns-in-Ok c same = none_in_value (document c.args.text.now) _ c.in-Ok.ensures.ok c.in-Ok.ensures.unique
