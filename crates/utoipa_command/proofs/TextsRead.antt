-- Texts that are read as documents of a kind, in the words of the bytes of an input.
use Rattle.std.proofs.Common.{◌≡◌, ◌∙◌, ℕ, List, Some, None, Result, Ok, Err, IfOk, IfErr, Vec, Global, ap, sym, subst}
use Rattle.std.specs.Str.{IsUtf8}
use Rattle.std.specs.Result.{IsErrAnd}
use Rattle.serde_json.specs.Data.{Data}
use Rattle.serde_json.specs.Read.{read as read_text}
use Rattle.utoipa_base.specs.Docs.{Doc}
use Rattle.utoipa_base.specs.Kinds as kinds
use Rattle.utoipa_base.specs.Texts as base
use Rattle.utoipa_base.specs.declared.fault.ReadFault.{ReadFault}
use Rattle.utoipa_base.specs.declared.fault.ReadFault.TheVariants as fault
use Rattle.utoipa_findings.specs.Sources.{tree_of, IsSourceOf}
use Rattle.utoipa_findings.proofs.Fitting.{passed_on}
use Rattle.utoipa_command.specs.Answers.{input_kind, AnswersInput, IsAnswer, IsCause, IsCauseInTree, IsCauseOfText, IsTextRewritten}
use Rattle.utoipa_command.specs.Commands.{Request}
use Rattle.utoipa_command.specs.Messages.{refusal_of}
use Rattle.utoipa_command.specs.declared.refusal.Refusal.{Refusal}
use Rattle.utoipa_command.specs.declared.refusal.Refusal.TheVariants.{Memory, Read, Write, Text, Fraction, Missing, Kind, Word, Alternative, Empty, Count}
use Rattle.utoipa_command.proofs.Trees.{cause_in_tree, has_tree, has_no_tree}

-- what a text is read as, its bytes are read as
pub read_as : (k : kinds.Kind) (bytes text : List ℕ) (d : Doc) → text ≡ bytes → IsUtf8 bytes → base.IsTextOf k d text → IsSourceOf k d bytes
read_as k bytes text d same utf8 h = record { tree = h.tree; has = has_tree bytes h.tree utf8 (ap read_text (sym same) ∙ h.has); reads = (h.plain, h.reads) }

-- why a text is refused, its bytes are refused
refused_as : (k : kinds.Kind) (bytes text : List ℕ) (e : ReadFault) → text ≡ bytes → IsUtf8 bytes → base.RefusesText k text e → IsCauseOfText k bytes (refusal_of e)
refused_as k bytes text fault.Memory same utf8 h = tt
refused_as k bytes text fault.Fraction same utf8 h = (h.tree, has_tree bytes h.tree utf8 (ap read_text (sym same) ∙ h.has), h.fraction)
refused_as k bytes text (fault.Missing s) same utf8 h = (h.tree, has_tree bytes h.tree utf8 (ap read_text (sym same) ∙ h.has), h.plain, h.none)
refused_as k bytes text (fault.Kind s) same utf8 h = (h.tree, has_tree bytes h.tree utf8 (ap read_text (sym same) ∙ h.has), h.plain, h.none)
refused_as k bytes text (fault.Word s) same utf8 h = (h.tree, has_tree bytes h.tree utf8 (ap read_text (sym same) ∙ h.has), h.plain, h.none)
refused_as k bytes text fault.Alternative same utf8 h = (h.tree, has_tree bytes h.tree utf8 (ap read_text (sym same) ∙ h.has), h.plain, h.none)
refused_as k bytes text fault.Text same utf8 h = has_no_tree bytes (λ _. ap read_text (sym same) ∙ h)

-- a refusal of a text that `?` passes on
pub text_passed_on : {T : Type 0} (k : kinds.Kind) (bytes text : List ℕ) (r : Result T Refusal) (e : ReadFault) → IsErrAnd r (λ w. w ≡ refusal_of e) → text ≡ bytes → IsUtf8 bytes → base.RefusesText k text e → IfErr r (IsCauseOfText k bytes)
text_passed_on k bytes text r e is same utf8 h = passed_on (IsCauseOfText k bytes) r (refusal_of e) is (refused_as k bytes text e same utf8 h)

-- bytes that are no UTF-8 have no tree
pub no_utf8 : (bytes : List ℕ) → (IsUtf8 bytes → ⊥) → tree_of bytes ≡ None
no_utf8 bytes h = has_no_tree bytes (λ utf8. absurd (h utf8))

-- a cause of the kind that a request reads is one of the request
pub cause_of_input : (r : Request) (bytes : List ℕ) (w : Refusal) → IsCauseOfText (input_kind r) bytes w → IsCause r bytes w
cause_of_input r bytes Memory h = tt
cause_of_input r bytes Read h = absurd h
cause_of_input r bytes Write h = absurd h
cause_of_input r bytes Text h = h
cause_of_input r bytes Fraction h = h
cause_of_input r bytes Missing h = (h.0, h.1, (h.2, h.3))
cause_of_input r bytes Kind h = (h.0, h.1, (h.2, h.3))
cause_of_input r bytes Word h = (h.0, h.1, (h.2, h.3))
cause_of_input r bytes Alternative h = (h.0, h.1, (h.2, h.3))
cause_of_input r bytes Empty h = absurd h
cause_of_input r bytes Count h = absurd h

-- the same where that request is what is asked for
pub input_refused : {T : Type 0} (asked r : Request) (bytes : List ℕ) (result : Result T Refusal) → asked ≡ r → IfErr result (IsCauseOfText (input_kind r) bytes) → IfErr result (IsCause asked bytes)
input_refused asked r bytes (Ok v) is h = tt
input_refused asked r bytes (Err w) is h = subst (λ s. IsCause s bytes w) (sym is) (cause_of_input r bytes w h)

-- a refusal of an input that `?` passes on
pub input_passed_on : {T : Type 0} (r : Request) (bytes : List ℕ) (result : Result T Refusal) (w : Refusal) → IsErrAnd result (λ v. v ≡ w) → IsCauseOfText (input_kind r) bytes w → IfErr result (IsCause r bytes)
input_passed_on r bytes result w is h = passed_on (IsCause r bytes) result w is (cause_of_input r bytes w h)

-- a cause in the tree of the bytes is one in the bytes
pub tree_refused : {T : Type 0} (r : Request) (bytes : List ℕ) (t : Data) (result : Result T Refusal) → tree_of bytes ≡ Some t → IfErr result (IsCauseInTree r t) → IfErr result (IsCause r bytes)
tree_refused r bytes t (Ok v) has h = tt
tree_refused r bytes t (Err w) has h = cause_in_tree r bytes t w has h

answer_of_itself : (r : Request) (bytes : List ℕ) (result : Result (Vec ℕ Global) Refusal) → ((d : Doc) → AnswersInput r d d) → IfOk result (λ line. IsTextRewritten (input_kind r) bytes line.items) → IfOk result (λ line. IsAnswer r bytes line.items)
answer_of_itself r bytes (Ok line) same h = record {
  tree = h.0;
  has = h.1;
  answers = record { plain = h.2.plain; input = h.2.document; reads = h.2.reads; answer = h.2.document; answers = same h.2.document; text = h.2.text };
}
answer_of_itself r bytes (Err w) same h = tt

-- a document that answers itself, where such a request is what is asked for
pub rewritten_answers : (asked r : Request) (bytes : List ℕ) (result : Result (Vec ℕ Global) Refusal) → asked ≡ r → ((d : Doc) → AnswersInput r d d) → IfOk result (λ line. IsTextRewritten (input_kind r) bytes line.items) → IfOk result (λ line. IsAnswer asked bytes line.items)
rewritten_answers asked r bytes result is same h = subst (λ s. IfOk result (λ line. IsAnswer s bytes line.items)) (sym is) (answer_of_itself r bytes result same h)
