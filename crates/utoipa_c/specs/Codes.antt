-- The codes by which a call from C tells how it ended, and what each promises.
use Rattle.std.specs.Prelude.{◌≡◌, ◌≢◌, ◌<◌, ℕ, List, [], ◌∷◌, ◌++◌, length, drop, Some}
use Rattle.serde_json.specs.Data.{Data}
use Rattle.utoipa_base.specs.Kinds as kinds
use Rattle.utoipa_check.specs.Located.{IsNoDocument}
use Rattle.utoipa_check.specs.Misfits.{Misfits, misfits_and_fractions}
use Rattle.utoipa_findings.specs.Sources.{tree_of}
use Rattle.utoipa_command.specs.Answers.{IsAnswer, IsCause, input_kind}
use Rattle.utoipa_command.specs.Commands.{Request}
use Rattle.utoipa_command.specs.declared.refusal.Refusal.{Refusal}
use Rattle.utoipa_command.specs.declared.refusal.Refusal.TheVariants.{Memory, Read, Write, Text, Fraction, Missing, Kind, Word, Alternative, Empty, Count}
use Rattle.utoipa_c.specs.Causes.{refusal_of}

-- the code of a refusal; a call from C neither reads an input nor writes an output, so the last two come nowhere
abbrev pub code_of : Refusal → ℕ
code_of Memory = 2
code_of Text = 3
code_of Fraction = 4
code_of Missing = 5
code_of Kind = 6
code_of Word = 7
code_of Alternative = 8
code_of Empty = 9
code_of Count = 10
code_of Read = 12
code_of Write = 13

-- the room holds the line at its front, and behind it what it held
abbrev pub HasRoom : (line old new : List ℕ) → Type 0
HasRoom line old new = new ≡ line ++ drop (length line) old

-- code 0: an answer, of which P holds, stands at the front of the room, and this is its length
abbrev pub IsWritten : (P : List ℕ → Type 0) → (old new : List ℕ) → (needed : ℕ) → Type 0
IsWritten P old new needed = (line : List ℕ) × P line × (needed ≡ length line) × HasRoom line old new

-- code 1: an answer, of which P holds, has this length, for which the room is too small
abbrev pub IsTooLong : (P : List ℕ → Type 0) → (room : List ℕ) → (needed : ℕ) → Type 0
IsTooLong P room needed = (line : List ℕ) × P line × (needed ≡ length line) × (length room < length line)

-- the answer of a request to the text is written
abbrev pub IsAnswered : Request → (text old new : List ℕ) → (needed : ℕ) → Type 0
IsAnswered r text old new needed = IsWritten (IsAnswer r text) old new needed

-- the answer of a request to the text is too long
abbrev pub IsToldOf : Request → (text room : List ℕ) → (needed : ℕ) → Type 0
IsToldOf r text room needed = IsTooLong (IsAnswer r text) room needed

-- the code says the cause of the first of some misfits
abbrev pub SaysFirst : Misfits → (code : ℕ) → Type 0
SaysFirst [] code = ⊥
SaysFirst (m ∷ ms) code = code ≡ code_of (refusal_of m.1)

-- a text that has a plain tree which is no document of the kind is refused for the tree's first misfit, unless memory ran out
abbrev pub IsForFirstMisfit : kinds.Kind → (text : List ℕ) → (code : ℕ) → Type 0
IsForFirstMisfit k text code = (t : Data) → tree_of text ≡ Some t → IsNoDocument k t → code ≢ 2 → SaysFirst (misfits_and_fractions k t) code

-- any other code: that of a refusal, for which the text gives cause
pub record IsRefused (r : Request) (text : List ℕ) (code : ℕ) : Type 0 where
  pub refusal : Refusal
  pub says : code ≡ code_of refusal
  pub cause : IsCause r text refusal
  pub first : IsForFirstMisfit (input_kind r) text code
