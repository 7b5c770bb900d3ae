-- The tree of a text, and why a text is refused, by cases.
use Rattle.std.proofs.Common.{◌≡◌, ◌≢◌, ℕ, List, Bool, true, false, if◌then◌else◌, Some, None, refl, ap, ◌∙◌}
use Rattle.std.specs.Str.{IsUtf8, is_utf8}
use Rattle.std.proofs.lemmas.Str.{IsUtf8-from_is_utf8, is_utf8-from_IsUtf8}
use Rattle.serde_json.specs.Data.{Data}
use Rattle.serde_json.specs.Read.{read as read_text}
use Rattle.utoipa_findings.specs.Sources.{tree_of}
use Rattle.utoipa_command.specs.Answers.{IsCause, IsCauseInTree}
use Rattle.utoipa_command.specs.Commands.{Request}
use Rattle.utoipa_command.specs.declared.refusal.Refusal.{Refusal}
use Rattle.utoipa_command.specs.declared.refusal.Refusal.TheVariants.{Memory, Read, Write, Text, Fraction, Missing, Kind, Word, Alternative, Empty, Count}

by_utf8 : (bytes : List ℕ) (b : Bool) → is_utf8 bytes ≡ b → tree_of bytes ≡ if b then read_text bytes else None
by_utf8 bytes b e = ap (λ t. if t then read_text bytes else None) e

pub has_tree : (bytes : List ℕ) (t : Data) → IsUtf8 bytes → read_text bytes ≡ Some t → tree_of bytes ≡ Some t
has_tree bytes t utf8 is = by_utf8 bytes true (is_utf8-from_IsUtf8 bytes utf8) ∙ is

has_no_tree_by : (bytes : List ℕ) (b : Bool) → is_utf8 bytes ≡ b → (IsUtf8 bytes → read_text bytes ≡ None) → tree_of bytes ≡ None
has_no_tree_by bytes true e h = by_utf8 bytes true e ∙ h (IsUtf8-from_is_utf8 bytes e)
has_no_tree_by bytes false e h = by_utf8 bytes false e

pub has_no_tree : (bytes : List ℕ) → (IsUtf8 bytes → read_text bytes ≡ None) → tree_of bytes ≡ None
has_no_tree bytes h = has_no_tree_by bytes (is_utf8 bytes) refl h

-- a cause in the tree of the bytes is a cause in the bytes
pub cause_in_tree : (r : Request) (bytes : List ℕ) (t : Data) (w : Refusal) → tree_of bytes ≡ Some t → IsCauseInTree r t w → IsCause r bytes w
cause_in_tree r bytes t Memory e h = tt
cause_in_tree r bytes t Read e h = absurd h
cause_in_tree r bytes t Write e h = absurd h
cause_in_tree r bytes t Text e h = absurd h
cause_in_tree r bytes t Fraction e h = (t, e, h)
cause_in_tree r bytes t Missing e h = (t, e, h)
cause_in_tree r bytes t Kind e h = (t, e, h)
cause_in_tree r bytes t Word e h = (t, e, h)
cause_in_tree r bytes t Alternative e h = (t, e, h)
cause_in_tree r bytes t Empty e h = (t, e, h)
cause_in_tree r bytes t Count e h = (t, e, h)

-- what has no tree is refused as memory or as no text
pub cause_of_text : (r : Request) (bytes : List ℕ) (w : Refusal) → (w ≢ Memory → w ≡ Text) → (w ≡ Text → tree_of bytes ≡ None) → IsCause r bytes w
cause_of_text r bytes Memory h k = tt
cause_of_text r bytes Read h k = let e : Read ≡ Text = h (λ m. cc) in cc
cause_of_text r bytes Write h k = let e : Write ≡ Text = h (λ m. cc) in cc
cause_of_text r bytes Text h k = k refl
cause_of_text r bytes Fraction h k = let e : Fraction ≡ Text = h (λ m. cc) in cc
cause_of_text r bytes Missing h k = let e : Missing ≡ Text = h (λ m. cc) in cc
cause_of_text r bytes Kind h k = let e : Kind ≡ Text = h (λ m. cc) in cc
cause_of_text r bytes Word h k = let e : Word ≡ Text = h (λ m. cc) in cc
cause_of_text r bytes Alternative h k = let e : Alternative ≡ Text = h (λ m. cc) in cc
cause_of_text r bytes Empty h k = let e : Empty ≡ Text = h (λ m. cc) in cc
cause_of_text r bytes Count h k = let e : Count ≡ Text = h (λ m. cc) in cc
