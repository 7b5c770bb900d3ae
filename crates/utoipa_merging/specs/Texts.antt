-- JSON texts of documents, and what the documents of texts are merged into.
use Rattle.std.specs.Prelude.{◌≡◌, ℕ, List, [], ◌∷◌, ◌++◌, false, Some}
use Rattle.serde_json.specs.Data.{Data}
use Rattle.serde_json.specs.Read.{read as read_text}
use Rattle.serde_json.specs.Written.{has_float}
use Rattle.utoipa_base.specs.Docs.{Doc}
use Rattle.utoipa_base.specs.Kinds.{named, open_api_object}
use Rattle.utoipa_base.specs.Reading.{read}
use Rattle.utoipa_base.specs.WellFormed.{IsUnambiguous}
use Rattle.utoipa_base.specs.Writing.{write}
use Rattle.utoipa_merging.specs.Merged.{IsMerged, IsInKeyOrder}

-- the text has a tree without fractions, which is read as this document
pub record IsTextOf (d : Doc) (text : List ℕ) : Type 0 where
  pub tree : Data
  pub has : read_text text ≡ Some tree
  pub plain : has_float tree ≡ false
  pub reads : read (named open_api_object) tree ≡ Some d

-- the text has the tree that the document is written as
abbrev pub IsWrittenAs : Doc → List ℕ → Type 0
IsWrittenAs d text = read_text text ≡ Some (write d)

-- what the text is read as, if it is the text of a document, is unambiguous
abbrev pub IsUnambiguousText : List ℕ → Type 0
IsUnambiguousText text = (d : Doc) → IsTextOf d text → IsUnambiguous d

-- the documents are those of the texts, in turn
abbrev pub AreTextsOf : (documents : List Doc) (texts : List (List ℕ)) → Type 0
AreTextsOf [] [] = Unit {0}
AreTextsOf [] (text ∷ texts) = ⊥
AreTextsOf (d ∷ ds) [] = ⊥
AreTextsOf (d ∷ ds) (text ∷ texts) = IsTextOf d text × AreTextsOf ds texts

-- d is the one that the documents of the texts are merged into
pub record AreTextsMerged (texts : List (List ℕ)) (d : Doc) : Type 0 where
  pub documents : List Doc
  pub read : AreTextsOf documents texts
  pub merged : IsMerged documents d
  pub ordered : IsInKeyOrder d

-- ---- brackets

-- texts in brackets
pub data TextBrackets : Type 0 where
  one_text : List ℕ → TextBrackets
  pair_texts : TextBrackets → TextBrackets → TextBrackets

-- the texts from left to right
abbrev pub text_leaves : TextBrackets → List (List ℕ)
text_leaves (one_text text) = text ∷ []
text_leaves (pair_texts l r) = text_leaves l ++ text_leaves r

-- d is what the texts are merged into pair by pair, the inner pairs first, where what each inner pair is merged into is written as some text,
-- as `IsWritten` says, and that text is merged
abbrev pub AreTextsMergedByPairs : (IsWritten : Doc → List ℕ → Type 0) → TextBrackets → Doc → Type 0
AreTextsMergedByPairs IsWritten (one_text text) d = IsTextOf d text
AreTextsMergedByPairs IsWritten (pair_texts l r) d =
    (a b : Doc) × (s : List ℕ) × (t : List ℕ) × AreTextsMergedByPairs IsWritten l a × AreTextsMergedByPairs IsWritten r b × IsWritten a s × IsWritten b t
    × AreTextsMerged (s ∷ t ∷ []) d
