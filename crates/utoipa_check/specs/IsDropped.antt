-- Which places of a tree are dropped, without a list and without a test.
use Rattle.std.specs.Prelude.{◌≡◌, ◌⊎◌, ℕ, List, [], ◌∷◌, Option, None, Some}
use Rattle.serde_json.specs.Data.{Data, null, boolean, number, string, array, object, Members, no_members, member}
use Rattle.serde_json.specs.Find.{get, at, get_item}
use Rattle.utoipa_check.specs.Dropped.{Dropped, Loss, changed, absence}
use Rattle.utoipa_check.specs.Has.{IsAlike}
use Rattle.utoipa_check.specs.Misfits.{Step, at_name, at_index}

-- ---- what stands in a tree

abbrev pub IsMember : List ℕ → Data → Members → Type 0
IsMember k x no_members = ⊥
IsMember k x (member l d ms) = ((k ≡ l) × (x ≡ d)) ⊎ IsMember k x ms

-- the first tree stands in the second, behind a step
abbrev pub StandsIn : Step → Data → Data → Type 0
StandsIn s x null = ⊥
StandsIn s x (boolean b) = ⊥
StandsIn s x (number n) = ⊥
StandsIn s x (string t) = ⊥
StandsIn (at_name k) x (array ds) = ⊥
StandsIn (at_index i) x (array ds) = get_item i ds ≡ Some x
StandsIn (at_name k) x (object ms) = IsMember k x ms
StandsIn (at_index i) x (object ms) = ⊥

-- what was written behind a step
abbrev pub at_step : Step → Data → Option Data
at_step (at_name k) e = get k e
at_step (at_index i) e = at i e

-- ---- places

-- where nothing was written behind a step, the tree there is gone, and no tree inside it is listed; else a fact holds of what was written
abbrev pub Fate : Step → Data → List Step → Loss → (Data → Type 0) → Option Data → Type 0
Fate s x ss l P None = (ss ≡ []) × (l ≡ absence s x)
Fate s x ss l P (Some y) = P y

-- some steps lead to a place of the first tree that the second has lost, in this way. Up to the last step both trees are alike.
abbrev pub IsDropped : List Step → Loss → Data → Data → Type 0
IsDropped [] l d e = (IsAlike d e → ⊥) × (l ≡ changed)
IsDropped (s ∷ ss) l d e = IsAlike d e × ((x : Data) × StandsIn s x d × Fate s x ss l (λ y. IsDropped ss l x y) (at_step s e))

abbrev pub IsListed : Dropped → List Dropped → Type 0
IsListed p [] = ⊥
IsListed p (q ∷ qs) = (p ≡ q) ⊎ IsListed p qs
