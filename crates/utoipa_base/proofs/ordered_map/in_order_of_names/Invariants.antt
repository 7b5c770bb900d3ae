use Rattle.std.proofs.Common.{◌≡◌}
use Rattle.indexmap.specs.IndexMap.{hasher_of}
use Rattle.utoipa_base.proofs.TokenOrderedMaps.{Moved}
use Rattle.utoipa_base.proofs.ordered_map.in_order_of_names.Given as goal

abbrev pub invariant-loop-name : goal.invariant-loop-name
invariant-loop-name g l = Moved l.initial.name-iterator l.name-iterator l.map.entries × (hasher_of l.map ≡ hasher_of l.initial.map)
