use Rattle.std.proofs.Common.{◌≡◌, ◌||◌, ℕ, List}
use Rattle.std.specs.Option.{is_some}
use Rattle.std.specs.BTreeMap.{get_by_text}
use Rattle.utoipa_merging_parts.proofs.Noted.{is_noted, is_to_come}
use Rattle.utoipa_merging_parts.proofs.maps.names_of.Given as goal

-- a name of the map is noted, or still to come
abbrev pub invariant-loop-name : goal.invariant-loop-name
invariant-loop-name g l = (name : List ℕ) → (is_noted l.names name || is_to_come name l.name-iterator) ≡ is_some (get_by_text l.map name)
