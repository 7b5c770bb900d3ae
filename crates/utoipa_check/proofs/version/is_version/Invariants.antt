use Rattle.std.proofs.Common.{◌≡◌, [], length, is_some}
use denote.Text.{Utf8}
use denote.Shadow.{shadow}
use Rattle.utoipa_base.specs.Version.{read_version, pieces_after, piece_numbers}
use Rattle.utoipa_check.specs.Version.{names_version_after}
use Rattle.utoipa_check.proofs.version.is_version.Given as goal

-- the numbers so far and those of the text that is left name a version
abbrev pub invariant-loop-piece : goal.invariant-loop-piece
invariant-loop-piece l = shadow (Utf8 l.rest) × (names_version_after l.numbers (piece_numbers (pieces_after [] l.rest)) ≡ is_some (read_version l.initial.rest))

abbrev pub decreases-loop-piece : goal.decreases-loop-piece
decreases-loop-piece l = length l.rest
