-- What the fault writer is told, and the exit status.
use Rattle.std.specs.Prelude.{ℕ, List, [], codes}
use Rattle.utoipa_base.specs.declared.fault.ReadFault.{ReadFault}
use Rattle.utoipa_base.specs.declared.fault.ReadFault.TheVariants as fault
use Rattle.utoipa.specs.declared.merging.MergeFault.{MergeFault}
use Rattle.utoipa.specs.declared.merging.MergeFault.TheVariants as merge_fault
use Rattle.utoipa_command.specs.declared.command.Outcome.{Outcome}
use Rattle.utoipa_command.specs.declared.command.Outcome.TheVariants.{Done, Misuse, Refused}
use Rattle.utoipa_command.specs.declared.refusal.Refusal.{Refusal}
use Rattle.utoipa_command.specs.declared.refusal.Refusal.TheVariants.{Memory, Read, Write, Text, Fraction, Missing, Kind, Word, Alternative, Empty, Count}

-- the line of a refusal
abbrev pub refusal_line : Refusal → List ℕ
refusal_line Memory = codes "refused: memory\n"
refusal_line Read = codes "refused: read\n"
refusal_line Write = codes "refused: write\n"
refusal_line Text = codes "refused: text\n"
refusal_line Fraction = codes "refused: fraction\n"
refusal_line Missing = codes "refused: missing\n"
refusal_line Kind = codes "refused: kind\n"
refusal_line Word = codes "refused: word\n"
refusal_line Alternative = codes "refused: alternative\n"
refusal_line Empty = codes "refused: empty\n"
refusal_line Count = codes "refused: count\n"

-- the line for words that are no command
abbrev pub usage_line : List ℕ
usage_line = codes "usage: utoipa_doc COMMAND\n"

-- what is written on the fault writer
abbrev pub message_of : Outcome → List ℕ
message_of Done = []
message_of Misuse = usage_line
message_of (Refused w) = refusal_line w

-- the exit status
abbrev pub status_of : Outcome → ℕ
status_of Done = 0
status_of Misuse = 2
status_of (Refused w) = 1

-- the refusal for a fault of reading a document, each by its own name
abbrev pub refusal_of : ReadFault → Refusal
refusal_of fault.Memory = Memory
refusal_of fault.Fraction = Fraction
refusal_of (fault.Missing s) = Missing
refusal_of (fault.Kind s) = Kind
refusal_of (fault.Word s) = Word
refusal_of fault.Alternative = Alternative
refusal_of fault.Text = Text

-- the refusal for a fault of merging documents
abbrev pub refusal_of_merging : MergeFault → Refusal
refusal_of_merging merge_fault.Memory = Memory
refusal_of_merging merge_fault.Fraction = Fraction
refusal_of_merging merge_fault.Composer = Memory
