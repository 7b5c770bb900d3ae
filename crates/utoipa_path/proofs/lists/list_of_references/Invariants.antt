use Rattle.std.proofs.Common.{◌≡◌, map}
use Rattle.utoipa_path.specs.Lists.{reference_place}
use Rattle.utoipa_path.proofs.lists.list_of_references.Given as goal

abbrev pub invariant-loop-reference : goal.invariant-loop-reference
invariant-loop-reference g l = l.list.items ≡ map reference_place l.yielded
