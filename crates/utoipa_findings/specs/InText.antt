-- For users: that a tree has all that a text has, where the text's value keeps each member of an object, and a tree the last of a name.
use Rattle.std.specs.Prelude.{◌≡◌, ℕ, List, Some}
use Rattle.json.specs.Json as json
use Rattle.json.specs.Json.{document}
use Rattle.serde_json.specs.Data.{Num, Data, null, boolean, number, string, array, object, Items, no_items, item, Members}
use Rattle.serde_json.specs.Find.{get_member}
use Rattle.serde_json.specs.Read.{number_of}

-- Each value of the text's value stands at its place in the tree: each item under its index, and each member under its name.
abbrev mutual
  pub HasValue : Data → json.Json → Type 0
  HasValue t json.null = t ≡ null
  HasValue t (json.boolean b) = t ≡ boolean b
  HasValue t (json.number s) = (n : Num) × (number_of s ≡ Some n) × (t ≡ number n)
  HasValue t (json.string s) = t ≡ string s
  HasValue t (json.array js) = (ds : Items) × (t ≡ array ds) × HasItems ds js
  HasValue t (json.object ms) = (ns : Members) × (t ≡ object ns) × HasMembers ns ms

  pub HasItems : Items → json.Items → Type 0
  HasItems ds json.no_items = Unit {0}
  HasItems no_items (json.item j js) = ⊥
  HasItems (item d ds) (json.item j js) = HasValue d j × HasItems ds js

  pub HasMembers : Members → json.Members → Type 0
  HasMembers ns json.no_members = Unit {0}
  HasMembers ns (json.member k j ms) = (x : Data) × (get_member k ns ≡ Some x) × HasValue x j × HasMembers ns ms

-- the text is JSON, and the tree has all that it has
abbrev pub HasText : Data → (text : List ℕ) → Type 0
HasText t text = (j : json.Json) × (document text ≡ Some j) × HasValue t j
