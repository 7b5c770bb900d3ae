-- How a version text is read.
use Rattle.std.proofs.Common.{◌≡◌, ℕ, ℤ, List, [], Option, None, Some, option_map, option_and_then, refl, sym, ap, ◌∙◌, arith, Bor}
use Rattle.std.proofs.lemmas.Str.Pattern.{IsSplitOnceResult, split_parts}
use Rattle.serde_json.specs.Data.{Data, null, boolean, number, string, array, object}
use Rattle.serde_json.specs.Find.{as_str}
use Rattle.serde_json.specs.declared.value.Value.{the_lemmas}
use Rattle.utoipa_base.specs.Docs.{word_doc}
use Rattle.utoipa_base.specs.Kinds.{version}
use Rattle.utoipa_base.specs.Reading.{reader, read}
use Rattle.utoipa_base.specs.Version.{read_version, pieces_after, piece_number, piece_numbers, and_number}
use Rattle.utoipa_base.proofs.ByWords.{write-word, schema_count-word}
use Rattle.utoipa_leaf.specs.Version.{version_after}
use Rattle.utoipa_leaf.specs.declared.version.Numbers.{Numbers}
use Rattle.utoipa_leaf.specs.declared.version.Numbers.TheVariants.{Nothing}
use Rattle.utoipa_leaf.proofs.Pieces.{piece_before, last_piece}

-- a text is read as the version that it names
pub read-version : (d : Data) → read version d ≡ option_and_then (λ s. option_map word_doc (read_version s)) (as_str d)
unfolding reader
read-version null = refl
read-version (boolean b) = refl
read-version (number n) = refl
read-version (string s) = refl
read-version (array ds) = refl
read-version (object ms) = refl

pub ruleset by_version = (read-version, write-word, schema_count-word, the_lemmas)

-- ---- a text that is read piece by piece

-- before the first piece
pub no_piece : (w : List ℕ) → version_after Nothing (piece_numbers (pieces_after [] w)) ≡ read_version w
unfolding read_version
no_piece w = refl

-- what the numbers m are, once the number of a piece stands behind the numbers n
abbrev pub Follows : Numbers → Numbers → List ℕ → Type 0
Follows n m piece = (rest : List ℤ) → version_after m rest ≡ version_after n (and_number (piece_number piece) rest)

-- after a piece that stands before a dot
pub next_piece : (n m : Numbers) (w : List ℕ) (piece later : Bor (List ℕ)) (r : Option (List ℕ)) → IsSplitOnceResult 46 w (Some (piece, later)) → Follows n m piece.now
    → version_after n (piece_numbers (pieces_after [] w)) ≡ r → version_after m (piece_numbers (pieces_after [] later.now)) ≡ r
next_piece n m w piece later r split follows before =
    let parts = split_parts 46 w (Some (piece, later)) split (omega arith) in
    follows (piece_numbers (pieces_after [] later.now)) ∙ sym (ap (λ ps. version_after n (piece_numbers ps)) (ap (pieces_after []) parts.0 ∙ piece_before [] piece.now later.now parts.1)) ∙ before

-- after the last piece
pub whole_text : (n m : Numbers) (w : List ℕ) (r : Option (List ℕ)) → IsSplitOnceResult 46 w None → Follows n m w → version_after n (piece_numbers (pieces_after [] w)) ≡ r → version_after m [] ≡ r
whole_text n m w r split follows before =
    follows [] ∙ sym (ap (λ ps. version_after n (piece_numbers ps)) (last_piece [] w (split_parts 46 w None split (omega arith)))) ∙ before
