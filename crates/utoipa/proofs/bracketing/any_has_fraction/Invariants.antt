use Rattle.std.proofs.Common.{◌≡◌, false, take}
use Rattle.std.specs.List.{list_any}
use Rattle.utoipa.specs.Merging.{lists_have_fraction}
use Rattle.utoipa.specs.OpenApi.{openapi_doc}
use Rattle.utoipa.proofs.bracketing.any_has_fraction.Given as goal

-- none of the documents so far has such an entry
abbrev pub invariant-loop-document : goal.invariant-loop-document
invariant-loop-document l = list_any (λ d. lists_have_fraction (openapi_doc d)) (take l.document-index l.documents) ≡ false
