use Rattle.std.proofs.Common.{◌∙◌, ap}
use Rattle.std.proofs.lemmas.Result.{IfOk-weaker}
use Rattle.utoipa_outline.specs.Counted.{all_names}
use Rattle.utoipa_outline.proofs.counted.schema_names.Goals as goal

pub returns : goal.returns
returns c = IfOk-weaker c.names_of.result _ _ (λ v is. is ∙ ap all_names c.schemas_of-schemas.ensures) c.names_of.ensures
