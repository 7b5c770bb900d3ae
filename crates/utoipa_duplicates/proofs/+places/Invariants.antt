use Rattle.std.proofs.Common.{◌≡◌, ◌++◌, [], List, ℕ, drop, take, map, reverse}
use Rattle.std.specs.BTreeSet.{contains}
use Rattle.std.specs.List.{list_any}
use Rattle.std.specs.Str.{bytes_eq}
use Rattle.json.specs.Value.{value_view, items_view, members_view}
use Rattle.utoipa_duplicates.specs.Duplicates.{items_duplicates, members_duplicates}
use Rattle.utoipa_duplicates.specs.Views.{AreNames, places_of}
use Rattle.utoipa_duplicates.proofs.+places.Given as goal

abbrev pub invariant-places_in_items-loop-item : goal.invariant-places_in_items-loop-item
invariant-places_in_items-loop-item l = record {
  counted : l.index ≡ l.item-index;
  found : places_of l.found.items ++ items_duplicates l.item-index (items_view (drop l.item-index l.items.items)) ≡ items_duplicates 0 (items_view l.items.items);
}

abbrev pub invariant-places_in_members-loop-name : goal.invariant-places_in_members-loop-name
invariant-places_in_members-loop-name l = record {
  names : List (List ℕ);
  noted : AreNames l.earlier names;
  found : places_of l.found.items ++ members_duplicates names (members_view (drop l.name-index l.members.items)) ≡ members_duplicates [] (members_view l.members.items);
}
