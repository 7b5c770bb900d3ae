-- JSON texts of documents of a kind: what one is read as, and why one is refused.
use Rattle.std.specs.Prelude.{◌≡◌, ℕ, List, true, false, None, Some}
use Rattle.serde_json.specs.Data.{Data}
use Rattle.serde_json.specs.Read.{read as read_text}
use Rattle.serde_json.specs.Written.{has_float}
use Rattle.utoipa_base.specs.Docs.{Doc}
use Rattle.utoipa_base.specs.Kinds as kinds
use Rattle.utoipa_base.specs.Reading.{read}
use Rattle.utoipa_base.specs.declared.fault.ReadFault.{ReadFault}
use Rattle.utoipa_base.specs.declared.fault.ReadFault.TheVariants.{Memory, Fraction, Missing, Kind, Word, Alternative, Text}

-- the text has a tree without fractions, which is read as this document of the kind
pub record IsTextOf (k : kinds.Kind) (d : Doc) (text : List ℕ) : Type 0 where
  pub tree : Data
  pub has : read_text text ≡ Some tree
  pub plain : has_float tree ≡ false
  pub reads : read k tree ≡ Some d

-- the text has a tree with a fraction
pub record HasFraction (text : List ℕ) : Type 0 where
  pub tree : Data
  pub has : read_text text ≡ Some tree
  pub fraction : has_float tree ≡ true

-- the text has a tree without fractions that is no document of the kind
pub record HasNoDocument (k : kinds.Kind) (text : List ℕ) : Type 0 where
  pub tree : Data
  pub has : read_text text ≡ Some tree
  pub plain : has_float tree ≡ false
  pub none : read k tree ≡ None

-- why a text is refused so that is to be a document of the kind
abbrev pub RefusesText : kinds.Kind → List ℕ → ReadFault → Type 0
RefusesText k text Memory = Unit {0}
RefusesText k text Fraction = HasFraction text
RefusesText k text (Missing s) = HasNoDocument k text
RefusesText k text (Kind s) = HasNoDocument k text
RefusesText k text (Word s) = HasNoDocument k text
RefusesText k text Alternative = HasNoDocument k text
RefusesText k text Text = read_text text ≡ None
