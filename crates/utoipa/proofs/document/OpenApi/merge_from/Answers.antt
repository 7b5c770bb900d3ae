use Rattle.std.proofs.Common.{◌∷◌, [], sym, subst}
use Rattle.utoipa_merging.specs.Merged.{IsMerged}
use Rattle.utoipa.specs.OpenApi.{openapi_doc}
use Rattle.utoipa.proofs.MadeBeside.{holds_where_made}
use Rattle.utoipa.proofs.document.OpenApi.merge_from.Goals as goal

pub returns-clause-ok : goal.returns-clause-ok
returns-clause-ok c =
    let kept = c.in_ok-merged.ensures.ok in
    let both = openapi_doc c.args.self ∷ openapi_doc c.args.other ∷ [] in
    subst (λ d. IsMerged both (openapi_doc d)) (sym kept.0)
    (holds_where_made (IsMerged both (openapi_doc c.merge-done.new.self)) c.merge-done.result c.in_ok-merged.field-0-1 c.merge-done.ensures.ok kept.1)
