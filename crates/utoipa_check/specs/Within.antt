-- That a written tree has no place besides those of a tree, but for a null under `description` where the object of the tree has none.
use Rattle.std.specs.Prelude.{◌≡◌, ◌⊎◌, ℕ, List, None, codes}
use Rattle.serde_json.specs.Data.{Data, null, boolean, number, string, array, object, Items, no_items, item, Members, no_members, member}
use Rattle.serde_json.specs.Find.{get_member}
use Rattle.utoipa_check.specs.IsDropped.{IsMember}

-- null under `description`, beside members of which none has that name
abbrev pub IsAddedNull : List ℕ → Data → Members → Type 0
IsAddedNull k d ns = (k ≡ codes "description") × (d ≡ null) × (get_member k ns ≡ None)

-- Each place of the first tree is one of the second, whatever value stands there, but that an object may have such a null besides.
abbrev mutual
  pub IsWithin : Data → Data → Type 0
  IsWithin null t = Unit {0}
  IsWithin (boolean b) t = Unit {0}
  IsWithin (number n) t = Unit {0}
  IsWithin (string s) t = Unit {0}
  IsWithin (array ds) t = (es : Items) × (t ≡ array es) × ItemsWithin ds es
  IsWithin (object ms) t = (ns : Members) × (t ≡ object ns) × MembersWithin ms ns

  pub ItemsWithin : Items → Items → Type 0
  ItemsWithin no_items es = Unit {0}
  ItemsWithin (item d ds) no_items = ⊥
  ItemsWithin (item d ds) (item e es) = IsWithin d e × ItemsWithin ds es

  pub MembersWithin : Members → Members → Type 0
  MembersWithin no_members ns = Unit {0}
  MembersWithin (member k d ms) ns = (((x : Data) × IsMember k x ns × IsWithin d x) ⊎ IsAddedNull k d ns) × MembersWithin ms ns

-- a member has its place among others, or is such a null
abbrev pub IsPlaced : List ℕ → Data → Members → Type 0
IsPlaced k d ns = ((x : Data) × IsMember k x ns × IsWithin d x) ⊎ IsAddedNull k d ns
