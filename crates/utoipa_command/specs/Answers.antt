-- What a request has as its answer to the bytes of an input, and why it refuses them.
use Rattle.std.specs.Prelude.{◌≡◌, ◌≢◌, ℕ, List, [], ◌∷◌, ◌++◌, true, false, Option, None, Some, map, length}
use Rattle.std.specs.Map.{keys_of}
use Rattle.serde_json.specs.Data.{Data}
use Rattle.serde_json.specs.Written.{has_float, compact_text}
use Rattle.utoipa_base.specs.Docs.{Doc}
use Rattle.utoipa_base.specs.Kinds.{Kind, list_of, named, ref_or, schema as schema_kind, server_object, open_api_object}
use Rattle.utoipa_base.specs.Reading.{read}
use Rattle.utoipa_base.specs.Writing.{write}
use Rattle.utoipa_findings.specs.Sources.{tree_of}
use Rattle.utoipa_merging.specs.Merged.{IsMerged, IsInKeyOrder}
use Rattle.utoipa_merging.specs.Nested.{IsNested}
use Rattle.utoipa_merging.specs.Slots.{entries_in, items_in, paths_of}
use Rattle.utoipa_command.specs.Commands.{Request, server, schema, document, merge, nest}
use Rattle.utoipa_command.specs.declared.refusal.Refusal.{Refusal}
use Rattle.utoipa_command.specs.declared.refusal.Refusal.TheVariants.{Memory, Read, Write, Text, Fraction, Missing, Kind as NoKind, Word, Alternative, Empty, Count}

-- the kind of the document that a request reads
abbrev pub input_kind : Request → Kind
input_kind server = named server_object
input_kind schema = ref_or schema_kind
input_kind document = named open_api_object
input_kind merge = list_of (named open_api_object)
input_kind (nest base) = list_of (named open_api_object)

-- the document of the input of a request, if its tree is one
abbrev pub input_of : Request → Data → Option Doc
input_of r t = read (input_kind r) t

-- the paths of a document, each behind the base
abbrev pub behind : (base : List ℕ) → Doc → List (List ℕ)
behind base d = map (λ path. base ++ path) (keys_of (entries_in (paths_of d)))

-- the document has its maps in the order of their keys, and is one that P holds of: of the documents that other documents are merged or
-- nested into there is one such at most
abbrev pub IsOrdered : (Doc → Type 0) → Doc → Type 0
IsOrdered P d = P d × IsInKeyOrder d

-- the document that answers an input is d
abbrev pub AnswersInput : Request → (input d : Doc) → Type 0
AnswersInput server input d = d ≡ input
AnswersInput schema input d = d ≡ input
AnswersInput document input d = d ≡ input
AnswersInput merge input d = IsOrdered (IsMerged (items_in input)) d
AnswersInput (nest base) input d =
    (own nested : Doc) × (items_in input ≡ own ∷ nested ∷ []) × IsOrdered (IsNested (behind base nested) own nested) d

-- an input that has no answer, for it is a list of no documents
abbrev pub IsEmptyInput : Request → Doc → Type 0
IsEmptyInput merge input = items_in input ≡ []
IsEmptyInput r input = ⊥

-- an input that has no answer, for it is a list of another number of documents than two
abbrev pub IsMiscounted : Request → Doc → Type 0
IsMiscounted (nest base) input = length (items_in input) ≢ 2
IsMiscounted r input = ⊥

-- the line of a tree: its compact text, and a newline
abbrev pub line_of : Data → List ℕ
line_of t = compact_text t ++ (10 ∷ [])

-- the line is that of the answer to the plain tree t
pub record IsAnswerToTree (r : Request) (t : Data) (line : List ℕ) : Type 0 where
  pub plain : has_float t ≡ false
  pub input : Doc
  pub reads : input_of r t ≡ Some input
  pub answer : Doc
  pub answers : AnswersInput r input answer
  pub text : line ≡ line_of (write answer)

-- the bytes have a plain tree, and the line is that of the answer to it
pub record IsAnswer (r : Request) (bytes line : List ℕ) : Type 0 where
  pub tree : Data
  pub has : tree_of bytes ≡ Some tree
  pub answers : IsAnswerToTree r tree line

-- the request has an answer to the bytes
abbrev pub HasAnswer : Request → List ℕ → Type 0
HasAnswer r bytes = (line : List ℕ) × IsAnswer r bytes line

-- the bytes are no JSON text
abbrev pub HasNoTree : List ℕ → Type 0
HasNoTree bytes = tree_of bytes ≡ None

-- the bytes have a tree, and a number of it is neither an i64 nor a u64
abbrev pub HasFraction : List ℕ → Type 0
HasFraction bytes = (t : Data) × (tree_of bytes ≡ Some t) × (has_float t ≡ true)

-- the tree is plain, and what it reads as is not what is asked for
abbrev pub IsOtherTree : Request → Data → Type 0
IsOtherTree r t = (has_float t ≡ false) × (input_of r t ≡ None)

-- the tree is plain, and reads as an input that P holds of
abbrev pub IsTreeOf : (Request → Doc → Type 0) → Request → Data → Type 0
IsTreeOf P r t = (has_float t ≡ false) × ((input : Doc) × (input_of r t ≡ Some input) × P r input)

-- the bytes have a tree that P holds of
abbrev pub HasTree : (Request → Data → Type 0) → Request → List ℕ → Type 0
HasTree P r bytes = (t : Data) × (tree_of bytes ≡ Some t) × P r t

-- the bytes have a plain tree that is no document of the kind that is asked for
abbrev pub HasNoDocument : Request → List ℕ → Type 0
HasNoDocument r bytes = HasTree IsOtherTree r bytes

-- the bytes are those of no documents, and merging wants one
abbrev pub HasNone : Request → List ℕ → Type 0
HasNone r bytes = HasTree (IsTreeOf IsEmptyInput) r bytes

-- the bytes are those of another number of documents than two, which nesting wants
abbrev pub HasOtherCount : Request → List ℕ → Type 0
HasOtherCount r bytes = HasTree (IsTreeOf IsMiscounted) r bytes

-- why the tree t is refused so
abbrev pub IsCauseInTree : Request → Data → Refusal → Type 0
IsCauseInTree r t Memory = Unit {0}
IsCauseInTree r t Read = ⊥
IsCauseInTree r t Write = ⊥
IsCauseInTree r t Text = ⊥
IsCauseInTree r t Fraction = has_float t ≡ true
IsCauseInTree r t Missing = IsOtherTree r t
IsCauseInTree r t NoKind = IsOtherTree r t
IsCauseInTree r t Word = IsOtherTree r t
IsCauseInTree r t Alternative = IsOtherTree r t
IsCauseInTree r t Empty = IsTreeOf IsEmptyInput r t
IsCauseInTree r t Count = IsTreeOf IsMiscounted r t

-- why bytes that were read are refused so, before anything is written
abbrev pub IsCause : Request → List ℕ → Refusal → Type 0
IsCause r bytes Memory = Unit {0}
IsCause r bytes Read = ⊥
IsCause r bytes Write = ⊥
IsCause r bytes Text = HasNoTree bytes
IsCause r bytes Fraction = HasFraction bytes
IsCause r bytes Missing = HasNoDocument r bytes
IsCause r bytes NoKind = HasNoDocument r bytes
IsCause r bytes Word = HasNoDocument r bytes
IsCause r bytes Alternative = HasNoDocument r bytes
IsCause r bytes Empty = HasNone r bytes
IsCause r bytes Count = HasOtherCount r bytes

-- ---- for private clauses: a tree that is read as a document of a kind

-- the line is that of the document of the kind that the tree is, which is plain
pub record IsRewritten (k : Kind) (t : Data) (line : List ℕ) : Type 0 where
  pub plain : has_float t ≡ false
  pub document : Doc
  pub reads : read k t ≡ Some document
  pub text : line ≡ line_of (write document)

-- ---- a text that is to be a document of a kind

-- the bytes have a plain tree that is no document of the kind
abbrev pub IsOtherText : Kind → List ℕ → Type 0
IsOtherText k bytes = (t : Data) × (tree_of bytes ≡ Some t) × (has_float t ≡ false) × (read k t ≡ None)

-- why bytes are refused so that are to be a document of the kind
abbrev pub IsCauseOfText : Kind → List ℕ → Refusal → Type 0
IsCauseOfText k bytes Memory = Unit {0}
IsCauseOfText k bytes Read = ⊥
IsCauseOfText k bytes Write = ⊥
IsCauseOfText k bytes Text = HasNoTree bytes
IsCauseOfText k bytes Fraction = HasFraction bytes
IsCauseOfText k bytes Missing = IsOtherText k bytes
IsCauseOfText k bytes NoKind = IsOtherText k bytes
IsCauseOfText k bytes Word = IsOtherText k bytes
IsCauseOfText k bytes Alternative = IsOtherText k bytes
IsCauseOfText k bytes Empty = ⊥
IsCauseOfText k bytes Count = ⊥

-- the line is that of the document of the kind that the bytes are
abbrev pub IsTextRewritten : Kind → List ℕ → List ℕ → Type 0
IsTextRewritten k bytes line = (t : Data) × (tree_of bytes ≡ Some t) × IsRewritten k t line
