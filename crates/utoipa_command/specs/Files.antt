-- What a command for people answers, by the bytes of its files.
use Rattle.std.specs.Prelude.{◌≡◌, ◌≢◌, ◌⊎◌, ◌++◌, ◌==◌, ℕ, List, [], ◌∷◌, Bool, true, All, length, map}
use Rattle.std.specs.List.{flat_map}
use Rattle.serde_json.specs.Data.{Data}
use Rattle.utoipa_base.specs.Docs.{Doc}
use Rattle.utoipa_base.specs.Kinds.{Kind, named, open_api_object}
use Rattle.utoipa_base.specs.Writing.{write}
use Rattle.utoipa_conflicts.specs.Conflicts.{conflicts}
use Rattle.utoipa_conflicts.specs.Nested as nesting
use Rattle.utoipa_findings.specs.Lines.{conflict_line, nested_line}
use Rattle.utoipa_findings.specs.Sources.{File, IsFileOf, IsTreeOf}
use Rattle.utoipa_findings.specs.Told.{IsRefused, loss_lines}
use Rattle.utoipa_merging.specs.Merged.{IsMerged, IsInKeyOrder, IsOpenApi}
use Rattle.utoipa_merging.specs.Nested.{IsNested}
use Rattle.utoipa_outline.specs.Lines.{operation_lines}
use Rattle.utoipa_outline.specs.Stats.{stats_lines}
use Rattle.utoipa_command.specs.Answers.{behind}
use Rattle.utoipa_command.specs.Layouts.{laid_out}
use Rattle.utoipa_command.specs.declared.files.layout.Layout.{Layout}

-- the kind of a document
abbrev pub document_kind : Kind
document_kind = named open_api_object

-- the lines of what a file loses when its document is written
abbrev pub file_losses : File → List ℕ
file_losses f = loss_lines document_kind f

-- the text is that of the document that the file is, and the lines tell what the file loses by that
pub record IsFormatted (l : Layout) (file : File) (text lost : List ℕ) : Type 0 where
  pub document : Doc
  pub reads : IsFileOf document_kind document file
  pub written : text ≡ laid_out l (write document)
  pub told : lost ≡ file_losses file

-- the file is a document and loses something when that is written, and the lines tell what
pub record IsLossy (file : File) (told : List ℕ) : Type 0 where
  pub document : Doc
  pub reads : IsFileOf document_kind document file
  pub lines : told ≡ file_losses file
  pub some : told ≢ []

-- ---- merging

-- the documents are those of the files, in turn
abbrev pub AreSourcesOf : List Doc → List File → Type 0
AreSourcesOf [] [] = Unit {0}
AreSourcesOf [] (f ∷ fs) = ⊥
AreSourcesOf (d ∷ ds) [] = ⊥
AreSourcesOf (d ∷ ds) (f ∷ fs) = IsFileOf document_kind d f × AreSourcesOf ds fs

-- the lines of what files lose when their documents are written, file by file
abbrev pub losses_of : List File → List ℕ
losses_of fs = flat_map file_losses fs

-- the lines of what merging documents drops, by the names of their files
abbrev pub dropped_lines : (names : List (List ℕ)) → List Doc → List ℕ
dropped_lines names ds = flat_map (conflict_line names) (conflicts (map write ds))

-- the lines of what is lost where the documents of files are merged: of the files when their documents are written, and then of these by merging
abbrev pub lost_by_merging : List File → List Doc → List ℕ
lost_by_merging files ds = losses_of files ++ dropped_lines (map (λ f. f.0) files) ds

-- the text is that of what the documents of the files are merged into, and the lines tell what is lost by that
pub record IsMerge (l : Layout) (files : List File) (text lost : List ℕ) : Type 0 where
  pub documents : List Doc
  pub reads : AreSourcesOf documents files
  pub each : All IsOpenApi documents
  pub answer : Doc
  pub merges : IsMerged documents answer
  pub ordered : IsInKeyOrder answer
  pub written : text ≡ laid_out l (write answer)
  pub told : lost ≡ lost_by_merging files documents

-- what is told of a file among others that are refused: why it is no document, or nothing
abbrev pub IsToldOf : File → (told : List ℕ) → Type 0
IsToldOf f told = IsRefused document_kind f told ⊎ (((d : Doc) × IsFileOf document_kind d f) × (told ≡ []))

-- the lines tell of each of the files that is no document why it is none, one file after the other
abbrev pub AreTold : List File → (told : List ℕ) → Type 0
AreTold [] told = told ≡ []
AreTold (f ∷ fs) told = (first rest : List ℕ) × (told ≡ first ++ rest) × IsToldOf f first × AreTold fs rest

-- one of the files at least is no document, and the lines tell why
abbrev pub AreRefused : List File → (told : List ℕ) → Type 0
AreRefused fs told = AreTold fs told × (told ≢ [])

-- each file is a document, merging them loses something, and the lines tell what
pub record AreLossy (files : List File) (told : List ℕ) : Type 0 where
  pub documents : List Doc
  pub reads : AreSourcesOf documents files
  pub lines : told ≡ lost_by_merging files documents
  pub some : told ≢ []

-- ---- nesting

-- whether a text can stand before paths: nothing, or a text that begins with a slash
abbrev pub is_base : List ℕ → Bool
is_base [] = true
is_base (c ∷ cs) = c == 47

-- the lines of what nesting the second of two documents into the first drops, by the names of their files
abbrev pub dropped_by_nesting : (base : List ℕ) (names : List (List ℕ)) → (own nested : Doc) → List ℕ
dropped_by_nesting base names own nested = flat_map (nested_line names) (nesting.nested_conflicts (nesting.behind base (write nested)) (write own) (write nested))

-- the lines of what is lost where the document of the second file is nested into that of the first: of the files when their documents are written,
-- and then of these by nesting
abbrev pub lost_by_nesting : (base : List ℕ) (own nested : File) → (own_document nested_document : Doc) → List ℕ
lost_by_nesting base own nested c d = (file_losses own ++ file_losses nested) ++ dropped_by_nesting base (own.0 ∷ nested.0 ∷ []) c d

-- the text is that of the first document with the second nested into it, its paths behind the base, and the lines tell what is lost by that
pub record IsNest (l : Layout) (base : List ℕ) (own nested : File) (text lost : List ℕ) : Type 0 where
  pub own_document : Doc
  pub reads : IsFileOf document_kind own_document own
  pub nested_document : Doc
  pub reads_nested : IsFileOf document_kind nested_document nested
  pub own_kind : IsOpenApi own_document
  pub nested_kind : IsOpenApi nested_document
  pub answer : Doc
  pub nests : IsNested (behind base nested_document) own_document nested_document answer
  pub ordered : IsInKeyOrder answer
  pub written : text ≡ laid_out l (write answer)
  pub told : lost ≡ lost_by_nesting base own nested own_document nested_document

-- both files are documents, nesting loses something, and the lines tell what
pub record AreLossyNested (base : List ℕ) (own nested : File) (told : List ℕ) : Type 0 where
  pub own_document : Doc
  pub reads : IsFileOf document_kind own_document own
  pub nested_document : Doc
  pub reads_nested : IsFileOf document_kind nested_document nested
  pub lines : told ≡ lost_by_nesting base own nested own_document nested_document
  pub some : told ≢ []

-- ---- listing

-- the lines of the operations of the document that the file is, by its tree
pub record AreOperations (file : File) (lines : List ℕ) : Type 0 where
  pub tree : Data
  pub has : IsTreeOf document_kind tree file
  pub told : lines ≡ operation_lines tree

-- the lines of what is counted of the document that the file is, by its tree and its bytes
pub record AreStats (file : File) (lines : List ℕ) : Type 0 where
  pub tree : Data
  pub has : IsTreeOf document_kind tree file
  pub told : lines ≡ stats_lines document_kind tree (length file.1)
