-- What the document of the gateway is, and what is told as dropped.
use Rattle.std.specs.Prelude.{◌≡◌, ℕ, List, ◌∷◌, ◌++◌, map, string_bytes}
use Rattle.std.specs.List.{AllZip}
use Rattle.std.specs.Map.{keys_of}
use Rattle.utoipa_base.specs.Docs.{Doc}
use Rattle.utoipa_conflicts.specs.Merged.{Told, told}
use Rattle.utoipa_merging.specs.Merged.{IsMerged}
use Rattle.utoipa_merging.specs.Nested.{IsNested}
use Rattle.utoipa_merging.specs.Slots.{entries_in, paths_of}
use Rattle.utoipa.specs.OpenApi.{openapi_doc}
use Rattle.examples_of_use.specs.declared.service.Service.{Service}

-- the paths of a document, each behind the base
abbrev pub behind : (base : List ℕ) → Doc → List (List ℕ)
behind base d = map (λ path. base ++ path) (keys_of (entries_in (paths_of d)))

-- d is the gateway's own document with that of the service nested into it, behind the service's base
abbrev pub IsNestedOf : (own : Doc) → Service → (d : Doc) → Type 0
IsNestedOf own s d = IsNested (behind (string_bytes s.base) (openapi_doc s.document)) own (openapi_doc s.document) d

-- d is what the gateway's own document is merged to with those of all services, each nested, and of these documents the conflicts are told
pub record IsGatewayOf (own : Doc) (services : List Service) (d : Doc) (conflicts : List Told) : Type 0 where
  pub nested : List Doc
  pub each : AllZip (IsNestedOf own) services nested
  pub merged : IsMerged (own ∷ nested) d
  pub dropped : conflicts ≡ told (own ∷ nested)
