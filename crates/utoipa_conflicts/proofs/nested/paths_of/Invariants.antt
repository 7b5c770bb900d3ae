use Rattle.std.proofs.Common.{◌≡◌, take, map}
use Rattle.utoipa_conflicts.specs.Views.{item_of}
use Rattle.utoipa_conflicts.proofs.nested.paths_of.Given as goal

abbrev pub invariant-loop-item : goal.invariant-loop-item
invariant-loop-item l = map (λ p. p.now) l.paths.items ≡ map (λ i. (item_of i).0) (take l.item-index l.items.items)
