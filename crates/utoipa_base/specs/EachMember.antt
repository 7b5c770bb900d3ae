-- The members of an object, one after the other.
use Rattle.std.specs.Prelude.{ℕ, List, [], ◌++◌}
use Rattle.serde_json.specs.Data.{Data, Members, no_members, member}

-- what a function gives for each member, one after the other
abbrev pub each_member : {A : Type 0} → (List ℕ → Data → List A) → Members → List A
each_member f no_members = []
each_member f (member name d ms) = f name d ++ each_member f ms
