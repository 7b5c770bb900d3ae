use Rattle.utoipa_schema.specs.Places.{places, total}
use Rattle.utoipa_schema.proofs.Walks.{Walking}
use Rattle.utoipa_schema.proofs.places.walk.Given as goal

abbrev pub invariant-walk : goal.invariant-walk
invariant-walk l = Walking (places l.fn.roots.items) (places l.table.items) (places l.stack.items)

abbrev pub decreases-walk : goal.decreases-walk
decreases-walk l = total (places l.stack.items)
