-- Texts and trees that are no documents: why one is refused, and where.
use Rattle.std.specs.Prelude.{◌≡◌, ℕ, List, [], ◌∷◌, Bool, true, false, Option, None, Some, codes, string_bytes}
use Rattle.serde_json.specs.Data.{Data}
use Rattle.serde_json.specs.Read.{read as read_text}
use Rattle.serde_json.specs.Written.{has_float}
use Rattle.utoipa_base.specs.Docs.{Doc}
use Rattle.utoipa_base.specs.Kinds as kinds
use Rattle.utoipa_base.specs.Reading.{read}
use Rattle.utoipa_base.specs.WellFormed.{ReadsAs}
use Rattle.utoipa_base.specs.declared.fault.ReadFault.{ReadFault}
use Rattle.utoipa_base.specs.declared.fault.ReadFault.TheVariants.{Memory, Fraction, Missing, Kind, Word, Alternative, Text}
use Rattle.utoipa_check.specs.Misfits.{Misfit, Misfits, Cause, absent, expected, unknown_word, no_alternative, unknown_name, fraction, misfits, fractions}
use Rattle.utoipa_check.specs.Pointers.{pointer_text}
use Rattle.utoipa_check.specs.Views.{cause_of}
use Rattle.utoipa_check.specs.declared.located.FaultPlace.{FaultPlace}
use Rattle.utoipa_check.specs.declared.located.FaultPlace.TheVariants.{InText, InTree}

-- ---- which texts and trees are refused, and why

-- the text has a tree, which has no fraction and is read as this document
pub record IsTextOf (k : kinds.Kind) (d : Doc) (text : List ℕ) : Type 0 where
  pub tree : Data
  pub has : read_text text ≡ Some tree
  pub reads : ReadsAs k tree d

-- the tree has no fraction, and is no document
abbrev pub IsNoDocument : kinds.Kind → Data → Type 0
IsNoDocument k t = (has_float t ≡ false) × (read k t ≡ None)

-- why a tree is refused so
abbrev pub RefusesTree : kinds.Kind → Data → ReadFault → Type 0
RefusesTree k t Memory = Unit {0}
RefusesTree k t Fraction = has_float t ≡ true
RefusesTree k t (Missing s) = IsNoDocument k t
RefusesTree k t (Kind s) = IsNoDocument k t
RefusesTree k t (Word s) = IsNoDocument k t
RefusesTree k t Alternative = IsNoDocument k t
RefusesTree k t Text = ⊥

-- why a text without a tree is refused so
abbrev pub RefusesTreeless : ReadFault → Type 0
RefusesTreeless Memory = Unit {0}
RefusesTreeless Fraction = ⊥
RefusesTreeless (Missing s) = ⊥
RefusesTreeless (Kind s) = ⊥
RefusesTreeless (Word s) = ⊥
RefusesTreeless Alternative = ⊥
RefusesTreeless Text = Unit {0}

-- why a text is refused so, by its tree
abbrev pub RefusesText : kinds.Kind → Option Data → ReadFault → Type 0
RefusesText k None f = RefusesTreeless f
RefusesText k (Some t) f = RefusesTree k t f

-- ---- where

-- the text of a place's pointer, and the cause
abbrev pub Told : Type 0
Told = List ℕ × Cause

abbrev pub told : Misfit → Told
told m = (pointer_text m.0, m.1)

-- what a place of a tree tells
abbrev pub told_of : Option FaultPlace → Option Told
told_of None = None
told_of (Some (InText line column)) = None
told_of (Some (InTree pointer cause)) = Some (string_bytes pointer, cause_of cause)

-- the place is that of the first of some misfits, for its cause; where there are none, no place is told
abbrev pub IsFirst : Misfits → Option FaultPlace → Type 0
IsFirst [] p = p ≡ None
IsFirst (m ∷ ms) p = told_of p ≡ Some (told m)

-- Where a tree is refused: a fraction at the first one, and a tree that is no document of the kind at the first place that does not fit.
-- Where memory ran out no place is told.
abbrev pub IsPlaceOf : kinds.Kind → Data → ReadFault → Option FaultPlace → Type 0
IsPlaceOf k t Memory p = p ≡ None
IsPlaceOf k t Fraction p = IsFirst (fractions t) p
IsPlaceOf k t f p = IsFirst (misfits k t) p

-- ---- as which fault

-- what a fault says was wanted, where another sort of tree stands
abbrev pub wanted : kinds.Kind → List ℕ
wanted kinds.text = codes "text"
wanted kinds.flag = codes "bool"
wanted kinds.whole = codes "whole number"
wanted kinds.numeral = codes "whole number"
wanted kinds.any = codes "tree"
wanted (kinds.word_of v) = codes "text"
wanted kinds.version = codes "version"
wanted (kinds.list_of k) = codes "list"
wanted (kinds.map_of k) = codes "map"
wanted (kinds.ordered_map_of k) = codes "map"
wanted (kinds.entries_of k) = codes "map"
wanted (kinds.ref_or k) = wanted k
wanted (kinds.named n) = codes "object"
wanted kinds.schema = codes "schema"
wanted kinds.schema_type = codes "schema type"
wanted kinds.schema_format = codes "text"
wanted kinds.array_items = codes "schema"
wanted kinds.additional_properties = codes "schema"
wanted kinds.security_scheme = codes "security scheme"
wanted kinds.api_key = codes "security scheme"
wanted kinds.flows = codes "map"

-- the fault that says a cause. A fraction is no cause of a tree that is refused for another reason, and an unknown name of none that is refused.
abbrev pub Says : Cause → ReadFault → Type 0
Says (absent name) (Missing s) = s.now ≡ name
Says (expected k) (Kind s) = s.now ≡ wanted k
Says (unknown_word ws) (Word s) = Unit {0}
Says (no_alternative ks) Alternative = Unit {0}
Says (unknown_name ns) (Word s) = Unit {0}
Says fraction f = Unit {0}
Says c f = ⊥

-- the fault says the cause of the first of some misfits; where there are none, nothing is known of it
abbrev pub SaysFirst : Misfits → ReadFault → Type 0
SaysFirst [] f = Unit {0}
SaysFirst (m ∷ ms) f = Says m.1 f

-- the fault of a tree that is no document says the cause of the first misfit by the kind. The other faults are of no misfit.
abbrev pub IsFaultOf : kinds.Kind → Data → ReadFault → Type 0
IsFaultOf k t Memory = Unit {0}
IsFaultOf k t Fraction = Unit {0}
IsFaultOf k t Text = Unit {0}
IsFaultOf k t f = SaysFirst (misfits k t) f

-- the same of a text, by its tree
abbrev pub IsFaultOfText : kinds.Kind → Option Data → ReadFault → Type 0
IsFaultOfText k None f = Unit {0}
IsFaultOfText k (Some t) f = IsFaultOf k t f

-- whether a fault is one of a tree that does not fit
abbrev pub is_of_misfit : ReadFault → Bool
is_of_misfit Memory = false
is_of_misfit Fraction = false
is_of_misfit (Missing s) = true
is_of_misfit (Kind s) = true
is_of_misfit (Word s) = true
is_of_misfit Alternative = true
is_of_misfit Text = false

-- ---- where in a text

-- a line and a column of a text; which, is not defined
abbrev pub IsInText : Option FaultPlace → Type 0
IsInText p = (line column : ℕ) × (p ≡ Some (InText line column))

-- where a text without a tree is refused
abbrev pub IsPlaceOfTreeless : ReadFault → Option FaultPlace → Type 0
IsPlaceOfTreeless Memory p = p ≡ None
IsPlaceOfTreeless f p = IsInText p

-- where a text is refused, by its tree
abbrev pub IsPlaceOfText : kinds.Kind → Option Data → ReadFault → Option FaultPlace → Type 0
IsPlaceOfText k None f p = IsPlaceOfTreeless f p
IsPlaceOfText k (Some t) f p = IsPlaceOf k t f p
