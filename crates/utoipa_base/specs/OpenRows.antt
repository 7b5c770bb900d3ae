-- The rows of a member table while the members of its object come, one after the other: what is held at each, which is nothing until its member comes.
use Rattle.std.specs.Prelude.{◌≡◌, ◌⊎◌, ℕ, ◌+◌, ◌<◌, ◌≤◌, List, [], ◌∷◌, Bool, false, ◌||◌, Option, None, Some}
use Rattle.std.specs.Str.{bytes_eq}
use Rattle.json.specs.Token.{Token}
use Rattle.serde_json.specs.Data.{Data, Members}
use Rattle.serde_json.specs.Find.{get_member}
use Rattle.utoipa_base.specs.Docs.{Doc, Docs, no_docs}
use Rattle.utoipa_base.specs.Fields.{field_of}
use Rattle.utoipa_base.specs.FromTokens.{Comes}
use Rattle.utoipa_base.specs.Kinds.{Row}
use Rattle.utoipa_base.specs.Reading.{both}
use Rattle.utoipa_base.specs.Values.{values, schema_count}

-- whether a row has this name
abbrev pub is_row : List ℕ → List Row → Bool
is_row name [] = false
is_row name (r ∷ rs) = bytes_eq name r.name || is_row name rs

-- what is held at each row
abbrev pub Held : Type 0
Held = List (Option Doc)

-- what is held at a row, of the member under its name: the field that the member is, or nothing where there is no member
abbrev pub IsHeld : Row → Option Doc → Option Data → Type 0
IsHeld r None None = Unit {0}
IsHeld r None (Some d) = ⊥
IsHeld r (Some x) None = ⊥
IsHeld r (Some x) (Some d) = field_of r.mark r.kind (Some d) ≡ Some x

-- so it is at each row, of the members of an object
abbrev pub AreHeld : List Row → Held → Members → Type 0
AreHeld [] [] ms = Unit {0}
AreHeld [] (o ∷ os) ms = ⊥
AreHeld (r ∷ rs) [] ms = ⊥
AreHeld (r ∷ rs) (o ∷ os) ms = IsHeld r o (get_member r.name ms) × AreHeld rs os ms

-- of the rows, the first of this name held nothing and now holds the field x of the member d, and the others hold what they held
abbrev pub Takes : List Row → List ℕ → Data → Doc → (old new : Held) → Type 0
Takes [] name d x os ps = ⊥
Takes (r ∷ rs) name d x [] ps = ⊥
Takes (r ∷ rs) name d x (o ∷ os) [] = ⊥
Takes (r ∷ rs) name d x (o ∷ os) (p ∷ ps) =
    ((r.name ≡ name) × (o ≡ None) × (p ≡ Some x) × (field_of r.mark r.kind (Some d) ≡ Some x) × (ps ≡ os)) ⊎ ((bytes_eq name r.name ≡ false) × (p ≡ o) × Takes rs name d x os ps)

-- a member that comes first in the tokens `old` was taken by the row of its name, where `new` are the tokens after it, and the counter of schema
-- readings stood at `start` and stands at `now`
pub record Taken (rs : List Row) (name : List ℕ) (held holds : Held) (depth : ℕ) (old new : List Token) (start now : ℕ) : Type 0 where
  pub tree : Data
  pub comes : Comes tree depth old new
  pub field : Doc
  pub takes : Takes rs name tree field held holds
  pub grows : start ≤ now
  pub at_most : now ≤ start + values tree
  pub at_least : now < 18446744073709551615 → start + schema_count field ≤ now

-- the fields of the rows when the last member has come: what is held, and what an absent member is
abbrev pub held_fields : List Row → Held → Option Docs
held_fields [] [] = Some no_docs
held_fields [] (o ∷ os) = None
held_fields (r ∷ rs) [] = None
held_fields (r ∷ rs) (Some x ∷ os) = both (Some x) (held_fields rs os)
held_fields (r ∷ rs) (None ∷ os) = both (field_of r.mark r.kind None) (held_fields rs os)

-- the schema places of what is held
abbrev pub held_schema_count : Held → ℕ
held_schema_count [] = 0
held_schema_count (None ∷ os) = held_schema_count os
held_schema_count (Some x ∷ os) = schema_count x + held_schema_count os
