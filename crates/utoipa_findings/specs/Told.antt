-- What is told of a file.
use Rattle.std.specs.Prelude.{◌≡◌, ℕ, List, [], Option, None, Some, length, string_bytes}
use Rattle.serde_json.specs.Data.{Data}
use Rattle.utoipa_base.specs.Docs.{Doc}
use Rattle.utoipa_base.specs.Kinds.{Kind}
use Rattle.utoipa_base.specs.WellFormed.{ReadsAs}
use Rattle.utoipa_findings.specs.Findings.{Finding, refusals, text_findings, text_losses}
use Rattle.utoipa_findings.specs.Lines.{lines_of}
use Rattle.utoipa_findings.specs.Sources.{File, IsFileOf, IsTreelessLine, file_tree, tree_of}
use Rattle.utoipa_findings.specs.declared.refusal.Refusal.{Refusal}
use Rattle.utoipa_findings.specs.declared.refusal.Refusal.TheVariants.{Memory, Told}

-- a refusal of which P holds of the lines that it tells; want of memory tells nothing
abbrev pub Tells : (List ℕ → Type 0) → Refusal → Type 0
Tells P Memory = Unit {0}
Tells P (Told lines) = P (string_bytes lines)

-- the file has no tree, and this line tells so
abbrev pub IsTreeless : File → (told : List ℕ) → Type 0
IsTreeless x told = (tree_of x.1 ≡ None) × IsTreelessLine x.0 x.1 told

-- the lines of a file, by its tree: of what f lists of it, or that there is none
abbrev pub IsTold : (f : Data → List Finding) → File → Option Data → (told : List ℕ) → Type 0
IsTold f x None told = IsTreelessLine x.0 x.1 told
IsTold f x (Some t) told = told ≡ lines_of x.0 (f t)

-- how many lines that are: one that there is no tree, or one for each that f lists
abbrev pub lines_due : (f : Data → List Finding) → Option Data → ℕ
lines_due f None = 1
lines_due f (Some t) = length (f t)

-- what is found in a file
abbrev pub IsChecked : Kind → File → (told : List ℕ) → Type 0
IsChecked k x told = IsTold (text_findings k x.1) x (file_tree k x) told

-- the lines of what f lists of a tree, none where there is no tree
abbrev pub tree_lines : (f : Data → List Finding) → (name : List ℕ) → Option Data → List ℕ
tree_lines f name None = []
tree_lines f name (Some t) = lines_of name (f t)

-- the lines of what a file loses when its document is written again
abbrev pub loss_lines : Kind → File → List ℕ
loss_lines k x = tree_lines (text_losses k x.1) x.0 (file_tree k x)

-- the tree is no document of the kind, and the lines of its file tell why
pub record IsUnfit (k : Kind) (name : List ℕ) (t : Data) (told : List ℕ) : Type 0 where
  pub none : (d : Doc) → ReadsAs k t d → ⊥
  pub lines : told ≡ lines_of name (refusals k t)

-- the file is no document of the kind, and the lines tell why
pub record IsRefused (k : Kind) (x : File) (told : List ℕ) : Type 0 where
  pub none : (d : Doc) → IsFileOf k d x → ⊥
  pub lines : IsTold (refusals k) x (file_tree k x) told
