-- The salt of a map that is read.
use Rattle.std.specs.Prelude.{ℕ, List, String, string_bytes, fold}
use Rattle.std.specs.declared.alloc.Global.{Global}
use Rattle.std.specs.Hash as fed
use Rattle.std.specs.Hash.DefaultHasher as sip
use Rattle.std.specs.List.{flat_map}

-- what names write into a hasher: each its bytes, and then its end
abbrev pub names_written : List (String Global) → List (List ℕ)
names_written names = flat_map (λ name. fed.str (string_bytes name)) names

-- the hash of all the names
abbrev pub salt_of_names : List (String Global) → ℕ
salt_of_names names = sip.finish (fold sip.write sip.initial (names_written names))
