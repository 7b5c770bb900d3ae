-- A document that comes back: its tree, and what it is written as.
use Rattle.serde_json.specs.Data.{Data}
use Rattle.utoipa_base.specs.Docs.{Doc}
use Rattle.utoipa_base.specs.Kinds.{Kind}
use Rattle.utoipa_base.specs.WellFormed.{IsWellFormed, ReadsAs}
use Rattle.utoipa_base.specs.Writing.{write}
use Rattle.utoipa_check.specs.Has.{Has}
use Rattle.utoipa_check.specs.Within.{IsWithin}

-- The tree reads as the document.
pub record ComesBack (k : Kind) (t : Data) (d : Doc) : Type 0 where
  -- the tree has no fraction, and reads as the document
  pub reads : ReadsAs k t d
  -- plain, and unambiguous at every place
  pub well_formed : IsWellFormed d
  -- each value of the tree stands at its place in the written one
  pub kept : Has (write d) t
  -- which has no other place, but for the null that external docs without a description are written with
  pub nothing_besides : IsWithin (write d) t
