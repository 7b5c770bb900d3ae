use Rattle.std.proofs.Common.{◌≡◌, ◌++◌, take, map, string_bytes}
use Rattle.utoipa_conflicts.specs.Views.{item_of}
use Rattle.utoipa_conflicts.proofs.told.all_joined.Given as goal

abbrev pub invariant-loop-item : goal.invariant-loop-item
invariant-loop-item l = map string_bytes l.paths.items ≡ map (λ i. l.base ++ (item_of i).0) (take l.item-index l.items.items)
