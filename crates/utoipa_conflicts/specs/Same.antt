-- When two trees are one value.
use Rattle.std.specs.Prelude.{Bool, true, false, ◌&&◌, Option, None, Some}
use Rattle.std.specs.Str.{bytes_eq}
use Rattle.serde_json.specs.Data.{Data, null, boolean, number, string, array, object, Items, no_items, item, Members, no_members, member}
use Rattle.utoipa_check.specs.Dropped.{same_flag, same_number}

-- Whether two trees are one value: the same flag or text, a whole number of the same value, a fraction of the same bits of its f64, an array
-- of the same items in their order, an object of the same names with the same values. A whole number is no fraction.
abbrev mutual
  pub is_same : Data → Data → Bool
  is_same null null = true
  is_same null e = false
  is_same (boolean b) (boolean c) = same_flag b c
  is_same (boolean b) e = false
  is_same (number m) (number n) = same_number m n
  is_same (number m) e = false
  is_same (string s) (string t) = bytes_eq s t
  is_same (string s) e = false
  is_same (array ds) (array es) = same_items ds es
  is_same (array ds) e = false
  is_same (object ms) (object ns) = same_members ms ns
  is_same (object ms) e = false

  pub same_items : Items → Items → Bool
  same_items no_items no_items = true
  same_items no_items (item e es) = false
  same_items (item d ds) no_items = false
  same_items (item d ds) (item e es) = is_same d e && same_items ds es

  pub same_members : Members → Members → Bool
  same_members no_members no_members = true
  same_members no_members (member l e ns) = false
  same_members (member k d ms) no_members = false
  same_members (member k d ms) (member l e ns) = (bytes_eq k l && is_same d e) && same_members ms ns

-- whether something stands at a place, and is this value
abbrev pub is_value : Data → Option Data → Bool
is_value d None = false
is_value d (Some e) = is_same d e
