-- What a caller learns of a run of `server` over known bytes, from the facts that the run's contract states.
use Rattle.std.proofs.Common.{◌≡◌, ◌≤◌, ◌⊎◌, ◌++◌, inl, inr, ℕ, List, [], length, true, false, true≢false, Some, refl, sym, ap, ◌∙◌, subst, arith, lit≤}
use Rattle.serde_json.specs.Data.{Data}
use Rattle.serde_json.specs.Written.{has_float}
use Rattle.utoipa_command.specs.Answers.{HasFraction, HasNoDocument, HasNoTree, IsAnswer}
use Rattle.utoipa_command.specs.Bytes.{Known, Shows, Writing, reading, writing}
use Rattle.utoipa_command.specs.Commands.{server, request_of_words}
use Rattle.utoipa_command.specs.Messages.{refusal_line, status_of}
use Rattle.utoipa_command.specs.Runs.{IsExact, IsFault, IsRun, IsServed, IsTold}
use Rattle.utoipa_command.specs.declared.command.Outcome.{Outcome}
use Rattle.utoipa_command.specs.declared.command.Outcome.TheVariants.{Done, Misuse, Refused}
use Rattle.utoipa_command.specs.declared.refusal.Refusal.{Refusal}
use Rattle.utoipa_command.specs.declared.refusal.Refusal.TheVariants.{Memory, Read, Write, Text, Fraction, Missing, Kind, Word, Alternative, Empty, Count}

-- a run over bytes of which no read may have failed
abbrev pub Ran : Outcome → List ℕ → Known → Writing → Writing → Type 0
Ran o bytes rest out fault = IsRun (Some server) o (reading false false (Some bytes) rest) out fault

-- where the outcome is no fault, it is the one that is due
due : (o p : Outcome) (bytes : List ℕ) (rest : Known) (out fault : Writing) → Ran o bytes rest out fault → o ≡ p → ¬ IsFault p → IsExact server bytes p
due o p bytes rest out fault r e n =
    let at : IsServed server p (reading false false (Some bytes) rest) out
    = subst (λ q. IsServed server q (reading false false (Some bytes) rest) out) e r.served in
    at.exact n

told_text_by : (o : Outcome) (bytes : List ℕ) (rest : Known) (out fault : Writing) → Ran o bytes rest out fault → o ≡ Refused Text → HasNoTree bytes
told_text_by o bytes rest out fault r e = (due o (Refused Text) bytes rest out fault r e (λ h. h)).text.0 refl

told_fraction_by : (o : Outcome) (bytes : List ℕ) (rest : Known) (out fault : Writing) → Ran o bytes rest out fault → o ≡ Refused Fraction → HasFraction bytes
told_fraction_by o bytes rest out fault r e = (due o (Refused Fraction) bytes rest out fault r e (λ h. h)).fraction.0 refl

told_missing_by : (o : Outcome) (bytes : List ℕ) (rest : Known) (out fault : Writing) → Ran o bytes rest out fault → o ≡ Refused Missing → HasNoDocument server bytes
told_missing_by o bytes rest out fault r e = (due o (Refused Missing) bytes rest out fault r e (λ h. h)).no_document.0 tt

-- ---- bytes that have no answer

no_tree-answer : (bytes : List ℕ) → HasNoTree bytes → (line : List ℕ) → IsAnswer server bytes line → ⊥
no_tree-answer bytes n line a = let e = sym n ∙ a.has in cc

same_tree : (t u : Data) → Some t ≡ Some u → t ≡ u
same_tree t u e = cc

fraction-answer : (bytes : List ℕ) → HasFraction bytes → (line : List ℕ) → IsAnswer server bytes line → ⊥
fraction-answer bytes (t, e, h) line a = true≢false (sym h ∙ ap has_float (same_tree t a.tree (sym e ∙ a.has)) ∙ a.answers.plain)

-- where there is no answer, memory was at fault, or the outcome is the one that is due
no_answer : (o : Outcome) (bytes : List ℕ) (rest : Known) (out fault : Writing) → Ran o bytes rest out fault
    → ((line : List ℕ) → IsAnswer server bytes line → ⊥) → (IsExact server bytes o) ⊎ (o ≡ Refused Memory)
no_answer Done bytes rest out fault r n = inl (r.served.exact (λ h. h))
no_answer Misuse bytes rest out fault r n = inl (r.served.exact (λ h. h))
no_answer (Refused Memory) bytes rest out fault r n = inr refl
no_answer (Refused Read) bytes rest out fault r n = let e : false ≡ true = r.served.unread refl in cc
no_answer (Refused Write) bytes rest out fault r n = let b = r.served.broken refl in absurd (n b.0 b.1)
no_answer (Refused Text) bytes rest out fault r n = inl (r.served.exact (λ h. h))
no_answer (Refused Fraction) bytes rest out fault r n = inl (r.served.exact (λ h. h))
no_answer (Refused Missing) bytes rest out fault r n = inl (r.served.exact (λ h. h))
no_answer (Refused Kind) bytes rest out fault r n = inl (r.served.exact (λ h. h))
no_answer (Refused Word) bytes rest out fault r n = inl (r.served.exact (λ h. h))
no_answer (Refused Alternative) bytes rest out fault r n = inl (r.served.exact (λ h. h))
no_answer (Refused Empty) bytes rest out fault r n = inl (r.served.exact (λ h. h))
no_answer (Refused Count) bytes rest out fault r n = inl (r.served.exact (λ h. h))

no_tree_by : (o : Outcome) (bytes : List ℕ) (rest : Known) (out fault : Writing) → Ran o bytes rest out fault → HasNoTree bytes → (o ≡ Refused Text) ⊎ (o ≡ Refused Memory)
no_tree_by o bytes rest out fault r n =
    elim (no_answer o bytes rest out fault r (no_tree-answer bytes n)) [
      | inl e ↦ inl (e.text.1 n)
      | inr e ↦ inr e
    ]

fraction_by : (o : Outcome) (bytes : List ℕ) (rest : Known) (out fault : Writing) → Ran o bytes rest out fault → HasFraction bytes → (o ≡ Refused Fraction) ⊎ (o ≡ Refused Memory)
fraction_by o bytes rest out fault r f =
    elim (no_answer o bytes rest out fault r (fraction-answer bytes f)) [
      | inl e ↦ inl (e.fraction.1 f)
      | inr e ↦ inr e
    ]

fits : (w : Refusal) → length (refusal_line w) ≤ 26
fits Memory = lit≤ tt
fits Read = lit≤ tt
fits Write = lit≤ tt
fits Text = lit≤ tt
fits Fraction = lit≤ tt
fits Missing = lit≤ tt
fits Kind = lit≤ tt
fits Word = lit≤ tt
fits Alternative = lit≤ tt
fits Empty = lit≤ tt
fits Count = lit≤ tt

-- what the fault writer shows, where it has room
shows : (o : Outcome) (w : Refusal) (room : ℕ) (xs ys : List ℕ) → 26 ≤ room → IsTold o (writing room true true (Some xs) (Some ys)) → o ≡ Refused w
    → ys ≡ xs ++ refusal_line w
shows o w room xs ys h t e =
    let at : IsTold (Refused w) (writing room true true (Some xs) (Some ys)) = subst (λ q. IsTold q (writing room true true (Some xs) (Some ys))) e t in
    let within : length (refusal_line w) ≤ 26 = fits w in
    at.whole (omega arith)

-- status 1 and the line of a refusal, or that of memory
refused : (o : Outcome) (w : Refusal) (s room : ℕ) (xs ys : List ℕ) → s ≡ status_of o → 26 ≤ room → IsTold o (writing room true true (Some xs) (Some ys))
    → (o ≡ Refused w) ⊎ (o ≡ Refused Memory) → (s ≡ 1) × ((ys ≡ xs ++ refusal_line w) ⊎ (ys ≡ xs ++ refusal_line Memory))
refused o w s room xs ys e h t (inl is) = (e ∙ ap status_of is, inl (shows o w room xs ys h t is))
refused o w s room xs ys e h t (inr is) = (e ∙ ap status_of is, inr (shows o Memory room xs ys h t is))

-- status 0 is an answer
pub status_done : (o : Outcome) (s : ℕ) → s ≡ status_of o → s ≡ 0 → o ≡ Done
status_done Done s e z = refl
status_done Misuse s e z = absurd (omega arith)
status_done (Refused w) s e z = absurd (omega arith)

-- a run for no word is a run of `server`
ran : (ws : List (List ℕ)) (o : Outcome) (bytes : List ℕ) (rest : Known) (out fault : Writing) → ws ≡ []
    → IsRun (request_of_words ws) o (reading false false (Some bytes) rest) out fault → Ran o bytes rest out fault
ran ws o bytes rest out fault e r = subst (λ v. IsRun (request_of_words v) o (reading false false (Some bytes) rest) out fault) e r

pub answered : (ws : List (List ℕ)) (o : Outcome) (s : ℕ) (bytes : List ℕ) (rest : Known) (room : ℕ) (xs ys : List ℕ) (fault : Writing) → ws ≡ []
    → IsRun (request_of_words ws) o (reading false false (Some bytes) rest) (writing room true true (Some xs) (Some ys)) fault → s ≡ status_of o → s ≡ 0
    → (line : List ℕ) × IsAnswer server bytes line × (ys ≡ xs ++ line)
answered ws o s bytes rest room xs ys fault e r st z = (ran ws o bytes rest _ fault e r).served.answered (status_done o s st z)

pub told_text : (ws : List (List ℕ)) (o : Outcome) (bytes : List ℕ) (rest : Known) (out fault : Writing) → ws ≡ []
    → IsRun (request_of_words ws) o (reading false false (Some bytes) rest) out fault → Shows fault.before fault.after (refusal_line Text) → HasNoTree bytes
told_text ws o bytes rest out fault e r s = told_text_by o bytes rest out fault (ran ws o bytes rest out fault e r) (r.told.shown Text s)

pub told_fraction : (ws : List (List ℕ)) (o : Outcome) (bytes : List ℕ) (rest : Known) (out fault : Writing) → ws ≡ []
    → IsRun (request_of_words ws) o (reading false false (Some bytes) rest) out fault → Shows fault.before fault.after (refusal_line Fraction) → HasFraction bytes
told_fraction ws o bytes rest out fault e r s = told_fraction_by o bytes rest out fault (ran ws o bytes rest out fault e r) (r.told.shown Fraction s)

pub told_missing : (ws : List (List ℕ)) (o : Outcome) (bytes : List ℕ) (rest : Known) (out fault : Writing) → ws ≡ []
    → IsRun (request_of_words ws) o (reading false false (Some bytes) rest) out fault → Shows fault.before fault.after (refusal_line Missing) → HasNoDocument server bytes
told_missing ws o bytes rest out fault e r s = told_missing_by o bytes rest out fault (ran ws o bytes rest out fault e r) (r.told.shown Missing s)

pub no_tree : (ws : List (List ℕ)) (o : Outcome) (s : ℕ) (bytes : List ℕ) (rest : Known) (out : Writing) (room : ℕ) (xs ys : List ℕ) → ws ≡ []
    → IsRun (request_of_words ws) o (reading false false (Some bytes) rest) out (writing room true true (Some xs) (Some ys)) → s ≡ status_of o → 26 ≤ room → HasNoTree bytes
    → (s ≡ 1) × ((ys ≡ xs ++ refusal_line Text) ⊎ (ys ≡ xs ++ refusal_line Memory))
no_tree ws o s bytes rest out room xs ys e r st h n =
    refused o Text s room xs ys st h r.told (no_tree_by o bytes rest out (writing room true true (Some xs) (Some ys)) (ran ws o bytes rest out (writing room true true (Some xs) (Some ys)) e r) n)

pub fraction : (ws : List (List ℕ)) (o : Outcome) (s : ℕ) (bytes : List ℕ) (rest : Known) (out : Writing) (room : ℕ) (xs ys : List ℕ) → ws ≡ []
    → IsRun (request_of_words ws) o (reading false false (Some bytes) rest) out (writing room true true (Some xs) (Some ys)) → s ≡ status_of o → 26 ≤ room → HasFraction bytes
    → (s ≡ 1) × ((ys ≡ xs ++ refusal_line Fraction) ⊎ (ys ≡ xs ++ refusal_line Memory))
fraction ws o s bytes rest out room xs ys e r st h f =
    refused o Fraction s room xs ys st h r.told (fraction_by o bytes rest out (writing room true true (Some xs) (Some ys)) (ran ws o bytes rest out (writing room true true (Some xs) (Some ys)) e r) f)
