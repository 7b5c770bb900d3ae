-- The texts of a tree in compact form.
use Rattle.std.specs.Prelude.{◌≡◌, ◌≤◌, ℕ, List, Some}
use Rattle.json.specs.Print.{print}
use Rattle.json.specs.Token.{Token}
use Rattle.serde_json.specs.Data.{Data, null, boolean, number, string, array, object, depth, Items, no_items, item, Members, no_members, member, put}
use Rattle.serde_json.specs.Read.{read as read_text, max_depth}
use Rattle.utoipa_base.specs.Events.{events}
use Rattle.utoipa_base.specs.Sent.{AreTokensOf}

abbrev mutual
  -- the tree with the members of each object in the order of their names; of those of one name the last stays
  pub in_order : Data → Data
  in_order null = null
  in_order (boolean b) = boolean b
  in_order (number n) = number n
  in_order (string s) = string s
  in_order (array ds) = array (items_in_order ds)
  in_order (object ms) = object (put_in_order ms no_members)

  pub items_in_order : Items → Items
  items_in_order no_items = no_items
  items_in_order (item d ds) = item (in_order d) (items_in_order ds)

  -- the members, with others put among them, one after the other
  pub put_in_order : Members → Members → Members
  put_in_order no_members found = found
  put_in_order (member k d ms) found = put_in_order ms (put k (in_order d) found)

-- the text is JSON of the tree: it has the tree's items and members, each once and in turn, and for each number a text that is read as
-- the number, with no space between. So it is read as the tree, where this nests no deeper than a text may
pub record IsJsonOf (d : Data) (text : List ℕ) : Type 0 where
  pub has : (ts : List Token) × (text ≡ print ts) × AreTokensOf (events d) ts
  pub reads_back : depth d ≤ max_depth → read_text text ≡ Some (in_order d)
