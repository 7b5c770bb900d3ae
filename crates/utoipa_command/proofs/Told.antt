-- The lines of the refusals differ in their first eleven bytes, so a whole line names its outcome.
use Rattle.std.proofs.Common.{◌≡◌, ◌≤◌, ◌++◌, ℕ, Bool, List, if◌then◌else◌, Some, None, codes, length, take, min, lit≤, refl, sym, ap, ◌∙◌, subst, arith}
use Rattle.std.proofs.lemmas.List.{take-take, length-take, append_cancel_left}
use Rattle.std.specs.Str.{bytes_eq}
use Rattle.std.specs.Io.KnownBytes.{Appends}
use Rattle.utoipa_command.specs.Bytes.{Known, AppendsFront, Shows, writing}
use Rattle.utoipa_command.specs.Runs.{IsTold}
use Rattle.utoipa_command.specs.Messages.{message_of, refusal_line}
use Rattle.utoipa_command.specs.declared.command.Outcome.{Outcome}
use Rattle.utoipa_command.specs.declared.command.Outcome.TheVariants.{Done, Misuse, Refused}
use Rattle.utoipa_command.specs.declared.refusal.Refusal.{Refusal}
use Rattle.utoipa_command.specs.declared.refusal.Refusal.TheVariants.{Memory, Read, Write, Text, Fraction, Missing, Kind, Word, Alternative, Empty, Count}

-- the outcome whose message begins so
abbrev named : List ℕ → Outcome
named front = if bytes_eq front (codes "refused: me") then Refused Memory
    else if bytes_eq front (codes "refused: re") then Refused Read
    else if bytes_eq front (codes "refused: wr") then Refused Write
    else if bytes_eq front (codes "refused: te") then Refused Text
    else if bytes_eq front (codes "refused: fr") then Refused Fraction
    else if bytes_eq front (codes "refused: mi") then Refused Missing
    else if bytes_eq front (codes "refused: ki") then Refused Kind
    else if bytes_eq front (codes "refused: wo") then Refused Word
    else if bytes_eq front (codes "refused: al") then Refused Alternative
    else if bytes_eq front (codes "refused: em") then Refused Empty
    else if bytes_eq front (codes "refused: co") then Refused Count
    else if bytes_eq front (codes "usage: utoi") then Misuse
    else Done

named-message_of : (o : Outcome) → named (take 11 (message_of o)) ≡ o
named-message_of Done = refl
named-message_of Misuse = refl
named-message_of (Refused Memory) = refl
named-message_of (Refused Read) = refl
named-message_of (Refused Write) = refl
named-message_of (Refused Text) = refl
named-message_of (Refused Fraction) = refl
named-message_of (Refused Missing) = refl
named-message_of (Refused Kind) = refl
named-message_of (Refused Word) = refl
named-message_of (Refused Alternative) = refl
named-message_of (Refused Empty) = refl
named-message_of (Refused Count) = refl

is_long : (w : Refusal) → 11 ≤ length (refusal_line w)
is_long Memory = lit≤ tt
is_long Read = lit≤ tt
is_long Write = lit≤ tt
is_long Text = lit≤ tt
is_long Fraction = lit≤ tt
is_long Missing = lit≤ tt
is_long Kind = lit≤ tt
is_long Word = lit≤ tt
is_long Alternative = lit≤ tt
is_long Empty = lit≤ tt
is_long Count = lit≤ tt

-- a front that is as long has the same front
same_front : (n : ℕ) (m l : List ℕ) → 11 ≤ length l → take n m ≡ l → take 11 m ≡ take 11 l
same_front n m l long e =
    let counted : length l ≡ min n (length m) = ap length (sym e) ∙ length-take n m in
    let within : 11 ≤ n = omega arith in
    sym (take-take 11 n m within) ∙ ap (λ x. take 11 x) e

named_by : (o : Outcome) (w : Refusal) (n : ℕ) → take n (message_of o) ≡ refusal_line w → o ≡ Refused w
named_by o w n e = sym (named-message_of o) ∙ ap named (same_front n (message_of o) (refusal_line w) (is_long w) e) ∙ named-message_of (Refused w)

known_bytes : {xs ys : List ℕ} → Some xs ≡ Some ys → xs ≡ ys
known_bytes e = cc

shown : (o : Outcome) (w : Refusal) (old new : Known) → AppendsFront old new (message_of o) → Shows old new (refusal_line w) → o ≡ Refused w
shown o w None new f s = absurd s
shown o w (Some xs) None f s = absurd f.1
shown o w (Some xs) (Some ys) (n, e) s =
    let both : xs ++ take n (message_of o) ≡ xs ++ refusal_line w = sym e ∙ known_bytes s in
    named_by o w n (append_cancel_left xs _ _ both)

told_message : (o : Outcome) (room : ℕ) (e f : Bool) (old new : Known) → AppendsFront old new (message_of o)
    → (length (message_of o) ≤ room → Appends old new (message_of o)) → IsTold o (writing room e f old new)
told_message o room e f old new front fits = record {
  front = front;
  whole = fits;
  shown = λ w s. shown o w old new front s;
}

pub told : (o : Outcome) (bytes : List ℕ) (room : ℕ) (had may : Bool) (old new : Known) → bytes ≡ message_of o → AppendsFront old new bytes
    → (length bytes ≤ room → Appends old new bytes) → IsTold o (writing room had may old new)
told o bytes room had may old new e front fits =
    told_message o room had may old new (subst (λ m. AppendsFront old new m) e front) (subst (λ m. length m ≤ room → Appends old new m) e fits)
