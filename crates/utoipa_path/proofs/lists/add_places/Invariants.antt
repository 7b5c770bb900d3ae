use Rattle.std.proofs.Common.{◌≡◌, ◌++◌, map}
use Rattle.utoipa_path.specs.Lists.{own_place}
use Rattle.utoipa_path.proofs.lists.add_places.Given as goal

abbrev pub invariant-loop-item : goal.invariant-loop-item
invariant-loop-item g l = l.list.items ≡ l.initial.list.items ++ map own_place l.yielded
