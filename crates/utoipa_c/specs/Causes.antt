-- Why a text is refused that has a tree which is no document: the first place that does not fit.
use Rattle.std.specs.Prelude.{◌≡◌, ◌⊎◌, ℕ, List, [], ◌∷◌, Bool, true, false, Some}
use Rattle.serde_json.specs.Data.{Data}
use Rattle.utoipa_base.specs.Kinds.{Kind}
use Rattle.utoipa_check.specs.Misfits.{Cause, absent, expected, unknown_word, no_alternative, unknown_name, fraction, Misfits, misfits_and_fractions}
use Rattle.utoipa_findings.specs.Sources.{tree_of}
use Rattle.utoipa_command.specs.declared.refusal.Refusal.{Refusal}
use Rattle.utoipa_command.specs.declared.refusal.Refusal.TheVariants.{Memory, Read, Write, Text, Fraction, Missing, Kind as NoKind, Word, Alternative, Empty, Count}

-- the refusal that says a cause
abbrev pub refusal_of : Cause → Refusal
refusal_of (absent name) = Missing
refusal_of (expected k) = NoKind
refusal_of (unknown_word ws) = Word
refusal_of (no_alternative ks) = Alternative
-- no misfit has this cause, only a doubt
refusal_of (unknown_name ns) = Word
refusal_of fraction = Fraction

-- the refusal that says the first of some misfits; where there are none, another
abbrev pub first_or : (other : Refusal) → Misfits → Refusal
first_or other [] = other
first_or other (m ∷ ms) = refusal_of m.1

-- whether a refusal is for a tree that does not fit
abbrev pub is_of_misfit : Refusal → Bool
is_of_misfit Memory = false
is_of_misfit Read = false
is_of_misfit Write = false
is_of_misfit Text = false
is_of_misfit Fraction = false
is_of_misfit Missing = true
is_of_misfit NoKind = true
is_of_misfit Word = true
is_of_misfit Alternative = true
is_of_misfit Empty = false
is_of_misfit Count = false

-- for private clauses: what is told in place of a refusal for a misfit is the first misfit of the text's tree, or want of memory
abbrev pub IsToldFirst : Kind → (text : List ℕ) → (refusal told : Refusal) → Type 0
IsToldFirst k text refusal told = (told ≡ Memory) ⊎ ((t : Data) → tree_of text ≡ Some t → told ≡ first_or refusal (misfits_and_fractions k t))
