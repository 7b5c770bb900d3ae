-- For users: what stands in a text that was written while nothing was told as lost.
use Rattle.std.specs.Prelude.{◌≡◌, ℕ, List}
use Rattle.serde_json.specs.Data.{Data}
use Rattle.utoipa_base.specs.Docs.{Doc}
use Rattle.utoipa_base.specs.Writing.{write}
use Rattle.utoipa_findings.specs.ComesBack.{ComesBack}
use Rattle.utoipa_findings.specs.InText.{HasText}
use Rattle.utoipa_findings.specs.Standing.{AllStandIn, BothStand}
use Rattle.utoipa_findings.specs.Sources.{File, seen}
use Rattle.utoipa_command.specs.Files.{document_kind}
use Rattle.utoipa_command.specs.Layouts.{laid_out}
use Rattle.utoipa_command.specs.declared.files.layout.Layout.{Layout}

-- Each value of the file's text stands in its tree, and each value of the tree, as it is looked at, at its place in the text that was written.
pub record StandsFormatted (l : Layout) (file : File) (text : List ℕ) : Type 0 where
  pub tree : Data
  pub answer : Doc
  pub in_tree : HasText tree file.1
  pub stands : ComesBack document_kind (seen file.2 document_kind tree) answer
  pub written : text ≡ laid_out l (write answer)

-- Each value of each file's text stands in that file's tree, and each value of the tree, as it is looked at, in the text that was written: at its
-- place, or, of a list that merging joins, as one of the items there.
pub record StandMerged (l : Layout) (files : List File) (text : List ℕ) : Type 0 where
  pub trees : List Data
  pub answer : Doc
  pub stand : AllStandIn (write answer) files trees
  pub written : text ≡ laid_out l (write answer)

-- The same of two files, the second of which is nested into the first: what it has at a path stands at that path behind the base.
pub record StandNested (l : Layout) (base : List ℕ) (own nested : File) (text : List ℕ) : Type 0 where
  pub own_tree : Data
  pub nested_tree : Data
  pub answer : Doc
  pub stand : BothStand base (write answer) own nested own_tree nested_tree
  pub written : text ≡ laid_out l (write answer)
