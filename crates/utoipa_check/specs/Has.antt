-- That a written tree has all that a tree has, without a list and without a test.
use Rattle.std.specs.Prelude.{◌≡◌, ℕ, suc, Float, Option, None, Some}
use Rattle.std.specs.Float.Ieee.{to_bits}
use Rattle.std.specs.Float.{binary64}
use Rattle.serde_json.specs.Data.{Num, unsigned, negative, float, Data, null, boolean, number, string, array, object, Items, no_items, item, Members, no_members, member}
use Rattle.serde_json.specs.Find.{get, at}
use Rattle.utoipa_base.specs.Kinds.{Kind}
use Rattle.utoipa_base.specs.Docs.{Doc}
use Rattle.utoipa_base.specs.Reading.{read}
use Rattle.utoipa_base.specs.Writing.{write}

-- the second number is the first: a whole number of the same value, or a fraction of the same bits
abbrev pub IsSameNumber : Num → Num → Type 0
IsSameNumber (unsigned n) m = m ≡ unsigned n
IsSameNumber (negative z) m = m ≡ negative z
IsSameNumber (float x) m = (y : Float) × (m ≡ float y) × (to_bits binary64 x ≡ to_bits binary64 y)

-- the second tree has the value of the first, but for what stands in them
abbrev pub IsAlike : Data → Data → Type 0
IsAlike null e = e ≡ null
IsAlike (boolean b) e = e ≡ boolean b
IsAlike (number n) e = (m : Num) × (e ≡ number m) × IsSameNumber n m
IsAlike (string s) e = e ≡ string s
IsAlike (array ds) e = (es : Items) × (e ≡ array es)
IsAlike (object ms) e = (ns : Members) × (e ≡ object ns)

-- that something was written, of which a fact holds
abbrev pub Written : Option Data → (Data → Type 0) → Type 0
Written None P = ⊥
Written (Some e) P = P e

-- The first tree has everything that the second has: the same values at the same places. It may have more members and items.
abbrev mutual
  pub Has : Data → Data → Type 0
  Has e null = IsAlike null e
  Has e (boolean b) = IsAlike (boolean b) e
  Has e (number n) = IsAlike (number n) e
  Has e (string s) = IsAlike (string s) e
  Has e (array ds) = IsAlike (array ds) e × HasItems e 0 ds
  Has e (object ms) = IsAlike (object ms) e × HasMembers e ms

  -- the items from an index on
  pub HasItems : Data → ℕ → Items → Type 0
  HasItems e i no_items = Unit {0}
  HasItems e i (item d ds) = Written (at i e) (λ w. Has w d) × HasItems e (suc i) ds

  pub HasMembers : Data → Members → Type 0
  HasMembers e no_members = Unit {0}
  HasMembers e (member k d ms) = Written (get k e) (λ w. Has w d) × HasMembers e ms

-- the tree is a document of the kind, which is written with everything that the tree has
abbrev pub IsKept : Kind → Data → Type 0
IsKept k t = (d : Doc) × (read k t ≡ Some d) × Has (write d) t
