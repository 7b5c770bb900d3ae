use Rattle.std.proofs.Common.{length}
use Rattle.utoipa_schema.specs.Outcomes.{all_outcomes}
use Rattle.utoipa_schema.specs.Places.{places}
use Rattle.utoipa_schema.proofs.Filling.{Filling}
use Rattle.utoipa_schema.proofs.fill.fill.Given as goal

abbrev pub invariant-fill : goal.invariant-fill
invariant-fill l = Filling (places l.initial.table.items) (places l.table.items) (all_outcomes l.filled.items) l.initial.readings l.readings

abbrev pub decreases-fill : goal.decreases-fill
decreases-fill l = length l.table.items
