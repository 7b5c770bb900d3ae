-- What it means that a tree has the members of each object in the order of their names.
use Rattle.serde_json.specs.Data.{Data, null, boolean, number, string, array, object, Items, no_items, item, Members, no_members, member}
use Rattle.utoipa_merging.specs.Merged.{Ascends, names_in}

abbrev mutual
  -- in each object of the tree each name is below those after it, so each stands once
  pub IsSorted : Data → Type 0
  IsSorted null = Unit {0}
  IsSorted (boolean b) = Unit {0}
  IsSorted (number n) = Unit {0}
  IsSorted (string s) = Unit {0}
  IsSorted (array ds) = AreItemsSorted ds
  IsSorted (object ms) = Ascends (names_in ms) × AreMembersSorted ms

  -- so it is in the tree of each item
  pub AreItemsSorted : Items → Type 0
  AreItemsSorted no_items = Unit {0}
  AreItemsSorted (item d ds) = IsSorted d × AreItemsSorted ds

  -- so it is in the tree of each member
  pub AreMembersSorted : Members → Type 0
  AreMembersSorted no_members = Unit {0}
  AreMembersSorted (member name d ms) = IsSorted d × AreMembersSorted ms
