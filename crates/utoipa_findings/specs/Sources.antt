-- For users: files, the tree that each is looked at as, and the document that it is.
use Rattle.std.specs.Prelude.{◌≡◌, ℕ, List, [], ◌∷◌, ◌++◌, ◌==◌, ◌||◌, Bool, if◌then◌else◌, Option, None, Some, option_map, codes, decimal}
use Rattle.std.specs.Str.{is_utf8}
use Rattle.serde_json.specs.Data.{Data}
use Rattle.serde_json.specs.Read.{read as read_text}
use Rattle.serde_json.specs.Find.{get}
use Rattle.utoipa_adapt.specs.Adapted.{adapted, upgraded}
use Rattle.utoipa_adapt.specs.Rules.{is_3_0}
use Rattle.utoipa_adapt.specs.Trees.{is_text, passes}
use Rattle.utoipa_base.specs.Docs.{Doc}
use Rattle.utoipa_base.specs.Kinds.{Kind}
use Rattle.utoipa_base.specs.WellFormed.{ReadsAs}
use Rattle.utoipa_check.specs.Shown.{shown}
use Rattle.utoipa_findings.specs.declared.source.Form.{Form}
use Rattle.utoipa_findings.specs.declared.source.Form.TheVariants.{AsIs, Adapted, Upgraded}
use Rattle.utoipa_findings.specs.declared.source.Source.{Source}

-- the tree of the bytes, if they are UTF-8 and JSON
abbrev pub tree_of : List ℕ → Option Data
tree_of bytes = if is_utf8 bytes then read_text bytes else None

-- the bytes have a tree without fractions, which is read as this document of the kind
pub record IsSourceOf (k : Kind) (d : Doc) (bytes : List ℕ) : Type 0 where
  pub tree : Data
  pub has : tree_of bytes ≡ Some tree
  pub reads : ReadsAs k tree d

-- ---- files

-- a file: its name, its bytes, and the form in which its tree is looked at
abbrev pub File : Type 0
File = List ℕ × List ℕ × Form

abbrev pub file_of : Source → File
file_of s = (s.name.now, s.bytes.now, s.form)

-- whether a tree is that of an OpenAPI 3.0 document, by its version
abbrev pub is_of_3_0 : Data → Bool
is_of_3_0 t = passes (is_text is_3_0) (get (codes "openapi") t)

-- a tree, upgraded to one of 3.1 if it is of 3.0
abbrev pub upgraded_from_3_0 : Kind → Data → Data
upgraded_from_3_0 k t = if is_of_3_0 t then upgraded k t else t

-- a tree that is to be a document of a kind, as it is looked at: as it is, or adapted to what the model reads, with its meaning; and before that
-- upgraded
abbrev pub seen : Form → Kind → Data → Data
seen AsIs k t = t
seen Adapted k t = adapted k t
seen Upgraded k t = adapted k (upgraded_from_3_0 k t)

-- the tree of a file that is to be a document of a kind, if its bytes are UTF-8 and JSON
abbrev pub file_tree : Kind → File → Option Data
file_tree k x = option_map (seen x.2 k) (tree_of x.1)

-- the file has a tree without fractions, which is read as this document of the kind
pub record IsFileOf (k : Kind) (d : Doc) (x : File) : Type 0 where
  pub tree : Data
  pub has : file_tree k x ≡ Some tree
  pub reads : ReadsAs k tree d

-- the file has this tree, which is read as a document of the kind
pub record IsTreeOf (k : Kind) (t : Data) (x : File) : Type 0 where
  pub has : file_tree k x ≡ Some t
  pub document : Doc
  pub reads : ReadsAs k t document

-- ---- bytes that are no JSON

-- white space of JSON
abbrev pub is_blank : ℕ → Bool
is_blank c = c == 32 || c == 9 || c == 10 || c == 13

-- the first byte that is no white space
abbrev pub first_byte : List ℕ → Option ℕ
first_byte [] = None
first_byte (c ∷ cs) = if is_blank c then first_byte cs else Some c

-- what tells of a file at one of its lines and columns
abbrev pub text_line : (name : List ℕ) → (line column : ℕ) → (said : List ℕ) → List ℕ
text_line name line column said = shown name ++ (codes ":" ++ (decimal line ++ (codes ":" ++ (decimal column ++ (codes ": " ++ said)))))

-- what is said of a text that is no JSON, by its first byte that is no white space: `{` or `[`, `<`, `/`, or another
abbrev pub looks : Option ℕ → List ℕ
looks None = codes "this is no JSON: there is nothing in it"
looks (Some c) =
    if c == 123 || c == 91 then codes "this is no JSON"
    else if c == 60 then codes "this is no JSON, and looks like HTML or XML"
    else if c == 47 then codes "this is no JSON, which has no comments"
    else codes "this is no JSON, and looks like YAML, which is not read: `yq -o json` of mikefarah/yq makes JSON of it"

-- what is said of a text that is no JSON, to the end of the line
abbrev pub no_json : (bytes : List ℕ) → List ℕ
no_json bytes = looks (first_byte bytes) ++ codes "\n"

-- what is said of bytes that have no tree
abbrev pub no_tree : (bytes : List ℕ) → List ℕ
no_tree bytes = if is_utf8 bytes then no_json bytes else codes "this is no UTF-8\n"

-- the line of a file that has no tree; at which line and column it is told to be broken, is not defined
abbrev pub IsTreelessLine : (name bytes told : List ℕ) → Type 0
IsTreelessLine name bytes told = (line column : ℕ) × (told ≡ text_line name line column (no_tree bytes))
