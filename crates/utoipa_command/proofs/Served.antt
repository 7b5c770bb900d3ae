-- What is answered or refused is served as the outcome says.
use Rattle.std.proofs.Common.{◌≡◌, ◌≢◌, true, Option, Some, None, IfSome, ap, sym, subst}
use Rattle.std.specs.Io.KnownBytes.{IsAtEnd}
use Rattle.utoipa_command.specs.Answers.{IsCause}
use Rattle.utoipa_command.specs.Bytes.{Known, Reading, Writing}
use Rattle.utoipa_command.specs.Commands.{Request}
use Rattle.utoipa_command.specs.Runs.{Answers, IsExact, IsFault, IsServed, BreaksOff}
use Rattle.utoipa_command.specs.declared.command.Outcome.{Outcome}
use Rattle.utoipa_command.specs.declared.command.Outcome.TheVariants.{Done, Refused}
use Rattle.utoipa_command.specs.declared.refusal.Refusal.{Refusal}
use Rattle.utoipa_command.specs.declared.refusal.Refusal.TheVariants.{Memory, Read, Write}
use Rattle.utoipa_command.proofs.Exact.{exact_done, exact_refused}

exact_known : (r : Request) (w : Refusal) (known : Known) → ¬ IsFault (Refused w) → IfSome known (λ bytes. IsCause r bytes w) → IfSome known (λ bytes. IsExact r bytes (Refused w))
exact_known r w None n h = tt
exact_known r w (Some bytes) n h = exact_refused r bytes w n h

same_refusal : {v w : Refusal} → Refused v ≡ Refused w → v ≡ w
same_refusal e = cc

pub refused : (r : Request) (w : Refusal) (input : Reading) (out : Writing)
    → (¬ IsFault (Refused w) → IfSome input.before (λ bytes. IsCause r bytes w))
    → (w ≡ Write → IfSome input.before (λ bytes. BreaksOff r bytes out))
    → (w ≡ Read → input.may_have_failed ≡ true)
    → (w ≢ Read → input.may_have_failed ≡ input.had_failed)
    → (w ≢ Write → out.may_have_failed ≡ out.had_failed)
    → (w ≢ Memory → w ≢ Read → IsAtEnd input.after)
    → IsServed r (Refused w) input out
refused r w input out cause broken unread all_read all_written end = record {
  exact = λ n. exact_known r w input.before n (cause n);
  answered = λ e. cc;
  broken = λ e. broken (same_refusal e);
  unread = λ e. unread (same_refusal e);
  all_read = λ q. all_read (λ e. q (ap Refused e));
  all_written = λ q. all_written (λ e. q (ap Refused e));
  end = λ m q. end (λ e. m (ap Refused e)) (λ e. q (ap Refused e));
}

answered_exactly : (r : Request) (known : Known) (out : Writing) → IfSome known (λ bytes. Answers r bytes out) → IfSome known (λ bytes. IsExact r bytes Done)
answered_exactly r None out h = tt
answered_exactly r (Some bytes) out (line, is, appends) = exact_done r bytes (line, is)

pub answered : (r : Request) (input : Reading) (out : Writing) → IfSome input.before (λ bytes. Answers r bytes out) → IsAtEnd input.after
    → input.may_have_failed ≡ input.had_failed → out.may_have_failed ≡ out.had_failed → IsServed r Done input out
answered r input out h end read written = record {
  exact = λ _. answered_exactly r input.before out h;
  answered = λ _. h;
  broken = λ e. cc;
  unread = λ e. cc;
  all_read = λ _. read;
  all_written = λ _. written;
  end = λ _ _. end;
}

-- what was served for what the words ask for
pub for_request : (o : Option Request) (r : Request) (outcome : Outcome) (input : Reading) (out : Writing) → o ≡ Some r
    → IsServed r outcome input out → IfSome o (λ q. IsServed q outcome input out)
for_request o r outcome input out e h = subst (λ p. IfSome p (λ q. IsServed q outcome input out)) (sym e) h
