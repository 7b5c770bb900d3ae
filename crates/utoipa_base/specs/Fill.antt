-- Fields that are filled from what a caller gives.
use Rattle.std.specs.Prelude.{◌≡◌, List, [], ◌∷◌, Option, option_map, String, string_cmp, Box}
use Rattle.std.specs.BTreeMap.{insert_entry}
use Rattle.std.specs.declared.alloc.Global.{Global}

-- there is a box where there is a value, and it holds that value
abbrev pub IsBoxedIfAny : {X : Type 0} → Option X → Option (Box X Global) → Type 0
IsBoxedIfAny given boxed = option_map (λ b. b.value) boxed ≡ given

-- values under their names, in some order
abbrev pub Pairs : Type 0 → Type 0
Pairs X = List (String Global × X)

-- the entries of a map, with each of some pairs put in turn, so that the later of two of a name stays
abbrev pub put_each : {X : Type 0} → Pairs X → Pairs X → Pairs X
put_each [] es = es
put_each (p ∷ ps) es = put_each ps (insert_entry string_cmp es p.0 p.1)
