use Rattle.std.proofs.Common.{◌∙◌}
use Rattle.std.proofs.lemmas.Result.{IfOk-weaker}
use Rattle.utoipa_components.proofs.builder.ComponentsBuilder.response_from.Goals as goal

pub returns : goal.returns
returns g c =
    let made = c.in_ok-name.ensures in
    IfOk-weaker c.response-2.result _ _
    (λ b put. (c.in_ok-from_str.field-0, c.in_ok-name.response, put.0, c.in_ok-from_str.ensures.ok ∙ made.0, made.1, put.1, put.2))
    c.response-2.ensures
