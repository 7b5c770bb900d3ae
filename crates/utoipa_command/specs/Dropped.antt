-- What merging the documents of a text would drop, in lines.
use Rattle.std.specs.Prelude.{◌≡◌, ℕ, List}
use Rattle.utoipa_base.specs.Docs.{Doc, docs_of, list_doc}
use Rattle.utoipa_base.specs.Kinds.{Kind, list_of}
use Rattle.utoipa_conflicts.specs.Merged.{told}
use Rattle.utoipa_conflicts.specs.Texts.{told_lines}
use Rattle.utoipa_findings.specs.Sources.{IsSourceOf}
use Rattle.utoipa_command.specs.Files.{document_kind}

-- the kind of a list of documents
abbrev pub documents_kind : Kind
documents_kind = list_of document_kind

-- the lines are of what merging drops of the documents of the list that the text is
pub record AreConflicts (text lines : List ℕ) : Type 0 where
  pub documents : List Doc
  pub reads : IsSourceOf documents_kind (list_doc (docs_of documents)) text
  pub told : lines ≡ told_lines (told documents)
