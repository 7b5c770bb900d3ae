-- Places in a tree.
use Rattle.std.specs.Prelude.{List, [], ◌∷◌, Option, Some, option_and_then}
use Rattle.serde_json.specs.Data.{Data}
use Rattle.utoipa_check.specs.IsDropped.{at_step}
use Rattle.utoipa_check.specs.Misfits.{Step}

-- the steps that lead from a tree to one that stands in it
abbrev pub Place : Type 0
Place = List Step

-- what stands at a place, nothing where the steps lead nowhere
abbrev pub at_place : Place → Data → Option Data
at_place [] d = Some d
at_place (s ∷ ss) d = option_and_then (at_place ss) (at_step s d)
