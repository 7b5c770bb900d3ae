-- How a run ends.
use Rattle.std.specs.Prelude.{◌≡◌, ◌≢◌, ◌↔◌, ◌<◌, ◌≤◌, ℕ, List, true, length, Option, None, IfSome}
use Rattle.std.specs.Io.KnownBytes.{Appends, IsAtEnd}
use Rattle.utoipa_command.specs.Answers.{HasAnswer, HasNoDocument, HasNone, HasOtherCount, HasNoTree, HasFraction, IsAnswer}
use Rattle.utoipa_command.specs.Bytes.{Reading, Writing, AppendsPart, AppendsFront, Shows}
use Rattle.utoipa_command.specs.Commands.{Request}
use Rattle.utoipa_command.specs.Messages.{message_of, refusal_line}
use Rattle.utoipa_command.specs.declared.command.Outcome.{Outcome}
use Rattle.utoipa_command.specs.declared.command.Outcome.TheVariants.{Done, Misuse, Refused}
use Rattle.utoipa_command.specs.declared.refusal.Refusal.{Refusal}
use Rattle.utoipa_command.specs.declared.refusal.Refusal.TheVariants.{Memory, Read, Write, Text, Fraction, Missing, Kind, Word, Alternative, Empty, Count}

-- memory, the reader or the writer was at fault, and not the input
abbrev pub IsFault : Outcome → Type 0
IsFault Done = ⊥
IsFault Misuse = ⊥
IsFault (Refused Memory) = Unit {0}
IsFault (Refused Read) = Unit {0}
IsFault (Refused Write) = Unit {0}
IsFault (Refused w) = ⊥

-- the tree is plain and no document of the kind that is asked for, and the run says what is wrong with it
abbrev pub IsNoDocument : Outcome → Type 0
IsNoDocument Done = ⊥
IsNoDocument Misuse = ⊥
IsNoDocument (Refused Missing) = Unit {0}
IsNoDocument (Refused Kind) = Unit {0}
IsNoDocument (Refused Word) = Unit {0}
IsNoDocument (Refused Alternative) = Unit {0}
IsNoDocument (Refused w) = ⊥

-- nothing of an answer may have been written
abbrev pub WritesNothing : Outcome → Type 0
WritesNothing o = (o ≢ Done) × (o ≢ Refused Write)

-- the run answers the bytes, no fault between: each outcome comes exactly where it is due
pub record IsExact (r : Request) (bytes : List ℕ) (o : Outcome) : Type 0 where
  pub done : (o ≡ Done) ↔ HasAnswer r bytes
  pub text : (o ≡ Refused Text) ↔ HasNoTree bytes
  pub fraction : (o ≡ Refused Fraction) ↔ HasFraction bytes
  pub no_document : IsNoDocument o ↔ HasNoDocument r bytes
  pub empty : (o ≡ Refused Empty) ↔ HasNone r bytes
  pub count : (o ≡ Refused Count) ↔ HasOtherCount r bytes

-- the writer got the line of the answer to the bytes
abbrev pub Answers : Request → List ℕ → Writing → Type 0
Answers r bytes out = (line : List ℕ) × IsAnswer r bytes line × Appends out.before out.after line

-- the writer got a part of the line of the answer to the bytes, for all of which it had no room
abbrev pub BreaksOff : Request → List ℕ → Writing → Type 0
BreaksOff r bytes out = (line : List ℕ) × IsAnswer r bytes line × AppendsPart out.before out.after line × (out.room < length line)

-- what a run for a request did that ended so, where the reader tells its bytes
pub record IsServed (r : Request) (o : Outcome) (input : Reading) (out : Writing) : Type 0 where
  pub exact : ¬ IsFault o → IfSome input.before (λ bytes. IsExact r bytes o)
  pub answered : o ≡ Done → IfSome input.before (λ bytes. Answers r bytes out)
  pub broken : o ≡ Refused Write → IfSome input.before (λ bytes. BreaksOff r bytes out)
  pub unread : o ≡ Refused Read → input.may_have_failed ≡ true
  -- a fault of the reader, an interruption too, ends the run so, and no other outcome passes one over; the same of the writer
  pub all_read : o ≢ Refused Read → input.may_have_failed ≡ input.had_failed
  pub all_written : o ≢ Refused Write → out.may_have_failed ≡ out.had_failed
  pub end : o ≢ Refused Memory → o ≢ Refused Read → IsAtEnd input.after

-- the fault writer got the outcome's message, and what it shows names the outcome
pub record IsTold (o : Outcome) (fault : Writing) : Type 0 where
  pub front : AppendsFront fault.before fault.after (message_of o)
  pub whole : length (message_of o) ≤ fault.room → Appends fault.before fault.after (message_of o)
  pub shown : (w : Refusal) → Shows fault.before fault.after (refusal_line w) → o ≡ Refused w

-- a run for these words that ended so, over a reader, an answer writer and a fault writer
pub record IsRun (request : Option Request) (o : Outcome) (input : Reading) (out fault : Writing) : Type 0 where
  pub misuse : (o ≡ Misuse) ↔ (request ≡ None)
  pub served : IfSome request (λ r. IsServed r o input out)
  pub told : IsTold o fault
