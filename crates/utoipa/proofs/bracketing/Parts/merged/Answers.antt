use Rattle.std.proofs.Common.{◌∷◌, map, List, sym, subst}
use Rattle.utoipa_merging.specs.Merged.{IsMerged}
use Rattle.utoipa.specs.Merging.{ArePartsOf, IsSameButParts}
use Rattle.utoipa.specs.OpenApi.{openapi_doc}
use Rattle.utoipa.specs.declared.document.OpenApi.{OpenApi}
use Rattle.utoipa.proofs.MadeBeside.{holds_where_made}
use Rattle.utoipa.proofs.bracketing.Parts.merged.Goals as goal

pub returns : goal.returns
returns c =
    record {
      ok = λ documents first parts same.
          let kept = c.in_ok-document.ensures.ok in
          let put = c.put_merged-put in
          subst (λ d. IsMerged (map openapi_doc (first ∷ documents)) (openapi_doc d)) (sym kept.0)
          (holds_where_made
          ((ds : List OpenApi) (d : OpenApi) → ArePartsOf (d ∷ ds) c.args.self → IsSameButParts d c.args.fixed → IsMerged (map openapi_doc (d ∷ ds)) (openapi_doc put.new.document))
          put.result _ put.ensures.ok kept.1 documents first parts same);
    }
