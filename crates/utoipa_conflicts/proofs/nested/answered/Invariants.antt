use Rattle.std.proofs.Common.{◌≡◌, ◌++◌, drop, map, string_bytes}
use Rattle.std.specs.Slice.Iter.{iter_rest}
use Rattle.utoipa_conflicts.specs.Nested as specs
use Rattle.utoipa_conflicts.specs.Views.{all_items}
use Rattle.utoipa_conflicts.proofs.nested.answered.Given as goal

abbrev pub invariant-loop-item : goal.invariant-loop-item
invariant-loop-item l =
    all_items l.put.items ++ specs.answered (map string_bytes (iter_rest l.answers)) (all_items (drop l.item-index l.items.items))
    ≡ specs.answered (map string_bytes l.fn.answers) (all_items l.items.items)
