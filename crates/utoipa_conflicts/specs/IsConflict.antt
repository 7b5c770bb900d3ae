-- Which values are dropped, without a list, and when none is.
use Rattle.std.specs.Prelude.{◌≡◌, ◌⊎◌, ℕ, ◌<◌, List, [], ◌∷◌, Some, IsTrue, false, slice_get}
use Rattle.serde_json.specs.Data.{Data}
use Rattle.utoipa_conflicts.specs.Conflicts.{Slot, Holder, holder, place, has, Rule, first_decides, last_decides, rule, slots}
use Rattle.utoipa_conflicts.specs.Same.{is_value}
use Rattle.utoipa_conflicts.specs.Trees.{Place, at_place}

abbrev pub IsOneOf : {A : Type 0} → A → List A → Type 0
IsOneOf x [] = ⊥
IsOneOf x (y ∷ ys) = (x ≡ y) ⊎ IsOneOf x ys

-- document i has a holder
abbrev pub Has : Holder → List Data → ℕ → Type 0
Has h ds i = (d : Data) × (slice_get ds i ≡ Some d) × IsTrue (has h d)

-- document i decides: it has the holder, and by the rule no document before it has it, or none after it
abbrev pub DecidesBy : Rule → Holder → List Data → ℕ → Type 0
DecidesBy first_decides h ds i = Has h ds i × ((k : ℕ) → k < i → Has h ds k → ⊥)
DecidesBy last_decides h ds i = Has h ds i × ((k : ℕ) → i < k → Has h ds k → ⊥)

abbrev pub Decides : Slot → List Data → ℕ → Type 0
Decides s ds i = DecidesBy (rule (holder s)) (holder s) ds i

-- document j has this value in this slot
abbrev pub HasValue : List Data → ℕ → Slot → Data → Type 0
HasValue ds j s v = (d : Data) × (slice_get ds j ≡ Some d) × IsOneOf (s, v) (slots d)

-- document i has at the slot's place nothing, or another value
abbrev pub HasAnother : List Data → ℕ → Slot → Data → Type 0
HasAnother ds i s v = (d : Data) × (slice_get ds i ≡ Some d) × (is_value v (at_place (place s) d) ≡ false)

-- a value of document j, in a slot at this place, is dropped, where document i decides
abbrev pub IsConflict : List Data → Place → ℕ → ℕ → Type 0
IsConflict ds p i j = (s : Slot) × (v : Data) × (p ≡ place s) × HasValue ds j s v × Decides s ds i × (i ≡ j → ⊥) × HasAnother ds i s v

-- each value that a document has in a slot is kept: the document that decides is that one, or has the same value there
abbrev pub AllKept : List Data → Type 0
AllKept ds = (i j : ℕ) (s : Slot) (v : Data) → HasValue ds j s v → Decides s ds i → (i ≡ j → ⊥) → HasAnother ds i s v → ⊥
