use Rattle.std.proofs.Common.{◌≡◌, ◌++◌, map, take}
use Rattle.serde_json.specs.View.{view}
use Rattle.utoipa_schema.specs.Places.{places, place_at, next_in_list}
use Rattle.utoipa_schema.proofs.places.push_elements.Given as goal

abbrev pub invariant-loop-tree : goal.invariant-loop-tree
invariant-loop-tree l = places l.stack.items ≡ places l.initial.stack.items ++ map (place_at l.may_be_reference next_in_list) (map view (take l.tree-index l.others))
