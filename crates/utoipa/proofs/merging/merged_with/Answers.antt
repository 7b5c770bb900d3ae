use Rattle.std.proofs.Common.{◌∷◌, [], sym, subst}
use Rattle.utoipa_merging.specs.Merged.{IsMerged}
use Rattle.utoipa.specs.OpenApi.{openapi_doc}
use Rattle.utoipa.proofs.MadeBeside.{holds_where_made}
use Rattle.utoipa.proofs.merging.merged_with.Goals as goal

pub returns-clause-ok : goal.returns-clause-ok
returns-clause-ok c =
    let kept = c.in_ok-document.ensures.ok in
    let both = openapi_doc c.args.document ∷ openapi_doc c.args.other ∷ [] in
    subst (λ d. IsMerged both (openapi_doc d)) (sym kept.0)
    (holds_where_made (IsMerged both (openapi_doc c.merge_plain-merged.new.self)) c.merge_plain-merged.result c.in_ok-document.field-0-1 c.merge_plain-merged.ensures.ok kept.1)
