use Rattle.std.proofs.Common.{◌∷◌, ◌∙◌, [], ap}
use Rattle.utoipa_compose.specs.Compositions.{place_doc}
use Rattle.utoipa_compose.specs.Made.{one_of}
use Rattle.utoipa_compose.proofs.MadeDocuments.{one_of_with}
use Rattle.utoipa_compose.proofs.made.nullable.Goals as goal

pub returns : goal.returns
returns c =
    let null = c.typed.result in
    one_of_with c.new-one_of.result c.new-one_of.ensures c.in_ok-items.items (null ∷ c.args.schema ∷ []) c.in_ok-items.ensures ∙ ap (λ d. one_of (d ∷ place_doc c.args.schema ∷ [])) c.typed.ensures
