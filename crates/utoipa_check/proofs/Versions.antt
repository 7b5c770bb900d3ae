-- How a version text is read.
use Rattle.std.proofs.Common.{◌≡◌, ℕ, ℤ, List, [], Bool, None, Some, is_some, refl, sym, ap, ◌∙◌, arith, Bor}
use Rattle.std.proofs.lemmas.Str.Pattern.{IsSplitOnceResult, split_parts}
use Rattle.utoipa_base.specs.Version.{read_version, pieces_after, piece_number, piece_numbers, and_number}
use Rattle.utoipa_check.specs.Version.{names_version_after}
use Rattle.utoipa_check.specs.declared.version.Numbers.{Numbers}
use Rattle.utoipa_check.specs.declared.version.Numbers.TheVariants.{Nothing}
use Rattle.utoipa_check.proofs.Pieces.{piece_before, last_piece}

-- before the first piece
pub no_piece : (w : List ℕ) → names_version_after Nothing (piece_numbers (pieces_after [] w)) ≡ is_some (read_version w)
unfolding read_version
no_piece w = refl

-- what the numbers m are, once the number of a piece stands behind the numbers n
abbrev pub Follows : Numbers → Numbers → List ℕ → Type 0
Follows n m piece = (rest : List ℤ) → names_version_after m rest ≡ names_version_after n (and_number (piece_number piece) rest)

-- after a piece that stands before a dot
pub next_piece : (n m : Numbers) (w : List ℕ) (piece later : Bor (List ℕ)) (r : Bool) → IsSplitOnceResult 46 w (Some (piece, later)) → Follows n m piece.now
    → names_version_after n (piece_numbers (pieces_after [] w)) ≡ r → names_version_after m (piece_numbers (pieces_after [] later.now)) ≡ r
next_piece n m w piece later r split follows before =
    let parts = split_parts 46 w (Some (piece, later)) split (omega arith) in
    follows (piece_numbers (pieces_after [] later.now)) ∙ sym (ap (λ ps. names_version_after n (piece_numbers ps)) (ap (pieces_after []) parts.0 ∙ piece_before [] piece.now later.now parts.1)) ∙ before

-- after the last piece
pub whole_text : (n m : Numbers) (w : List ℕ) (r : Bool) → IsSplitOnceResult 46 w None → Follows n m w → names_version_after n (piece_numbers (pieces_after [] w)) ≡ r → names_version_after m [] ≡ r
whole_text n m w r split follows before =
    follows [] ∙ sym (ap (λ ps. names_version_after n (piece_numbers ps)) (last_piece [] w (split_parts 46 w None split (omega arith)))) ∙ before
