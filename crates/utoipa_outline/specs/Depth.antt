-- How deep a tree nests.
use Rattle.std.specs.Prelude.{ℕ, ◌+◌, nat_lt, if◌then◌else◌}
use Rattle.serde_json.specs.Data.{Data, null, boolean, number, string, array, object, Items, no_items, item, Members, no_members, member}

abbrev pub larger : ℕ → ℕ → ℕ
larger n m = if nat_lt n m then m else n

-- one level more, up to the greatest number of 64 bits
abbrev pub deeper : ℕ → ℕ
deeper n = if nat_lt n 18446744073709551615 then n + 1 else n

abbrev mutual
  -- how many levels of arrays and objects stand in each other
  pub depth : Data → ℕ
  depth null = 0
  depth (boolean b) = 0
  depth (number n) = 0
  depth (string s) = 0
  depth (array ds) = deeper (items_depth 0 ds)
  depth (object ms) = deeper (members_depth 0 ms)

  -- that of the deepest item, or n where none is deeper
  pub items_depth : ℕ → Items → ℕ
  items_depth n no_items = n
  items_depth n (item d ds) = items_depth (larger n (depth d)) ds

  pub members_depth : ℕ → Members → ℕ
  members_depth n no_members = n
  members_depth n (member k d ms) = members_depth (larger n (depth d)) ms
