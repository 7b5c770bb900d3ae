-- OpenAPI documents that were read of trees in which nothing is in doubt, and what comes of merging and of nesting them.
use Rattle.std.specs.Prelude.{◌≡◌, ℕ, List, [], ◌∷◌, All, Some}
use Rattle.serde_json.specs.Data.{Data}
use Rattle.utoipa_base.specs.Docs.{Doc}
use Rattle.utoipa_base.specs.Kinds.{open_api_object, named}
use Rattle.utoipa_base.specs.Reading.{read}
use Rattle.utoipa_check.specs.Doubts.{doubts}
use Rattle.utoipa_merging.specs.Merged.{IsOpenApi, IsMerged, IsInKeyOrder}
use Rattle.utoipa_merging.specs.Nested.{IsNested}
use Rattle.utoipa_conflicts.specs.NestedInto.{IsNoExtension}

-- nothing in the tree is in doubt, and it reads as the document
abbrev pub IsRead : Data → Doc → Type 0
IsRead t d = (doubts (named open_api_object) t ≡ []) × (read (named open_api_object) t ≡ Some d)

-- the same of trees and documents, one after the other
abbrev pub AreRead : List Data → List Doc → Type 0
AreRead [] [] = Unit {0}
AreRead [] (d ∷ ds) = ⊥
AreRead (t ∷ ts) [] = ⊥
AreRead (t ∷ ts) (d ∷ ds) = IsRead t d × AreRead ts ds

-- Documents that were read, and the one that they are merged into.
pub record AreReadAndMerged (trees : List Data) (documents : List Doc) (d : Doc) : Type 0 where
  pub each : All IsOpenApi documents
  pub were_read : AreRead trees documents
  pub merged : IsMerged documents d
  pub ordered : IsInKeyOrder d

-- Two documents that were read, the composer's answers to the paths of the second, and what comes of nesting it into the first.
pub record AreReadAndNested (answers : List (List ℕ)) (own_tree other_tree : Data) (own other d : Doc) : Type 0 where
  pub own_kind : IsOpenApi own
  pub other_kind : IsOpenApi other
  pub own_read : IsRead own_tree own
  pub other_read : IsRead other_tree other
  pub own_ordered : IsInKeyOrder own
  pub other_ordered : IsInKeyOrder other
  pub answered : All IsNoExtension answers
  pub nested : IsNested answers own other d
  pub ordered : IsInKeyOrder d
