use Rattle.std.proofs.Common.{◌∷◌, ◌∙◌, [], ap}
use Rattle.std.proofs.lemmas.Result.{on_ok_weaker}
use Rattle.utoipa_base.specs.Views.{pairs_of}
use Rattle.utoipa_operation_parts.proofs.ResponsesByCode.{put_as_docs}
use Rattle.utoipa.specs.OwnSchemas.{with_field}
use Rattle.utoipa.proofs.own_schemas.put_under.Goals as goal

pub returns : goal.returns
returns g c =
    let key = c.in_ok-key in
    on_ok_weaker c.put.result
    (λ is f. ap (pairs_of f) is ∙ put_as_docs f ((key.key, c.args.value) ∷ []) c.args.map.now.entries ∙ ap (λ n. with_field n (f c.args.value) (pairs_of f c.args.map.now.entries)) key.ensures.ok)
    c.put.ensures.ok
