use Rattle.std.proofs.Common.{◌≡◌, ◌∷◌, ◌++◌, List, map}
use Rattle.std.specs.List.{AllZip}
use Rattle.utoipa_base.specs.Docs.{Doc}
use Rattle.utoipa.specs.OpenApi.{openapi_doc}
use Rattle.examples_of_use.specs.Gateway.{IsNestedOf}
use Rattle.examples_of_use.proofs.gateway.merged.Given as goal

-- the gateway's own document stands first, and then those of the services so far, nested
abbrev pub invariant-loop-base : goal.invariant-loop-base
invariant-loop-base l = record {
  passed : l.yielded ++ l.base-iterator.rest.items ≡ l.fn.services.items;
  nested : List Doc;
  each : AllZip (IsNestedOf (openapi_doc l.own)) l.yielded nested;
  documents : map openapi_doc l.documents.items ≡ openapi_doc l.own ∷ nested;
}
