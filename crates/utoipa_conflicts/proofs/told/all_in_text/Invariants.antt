use Rattle.std.proofs.Common.{◌≡◌, take, map}
use Rattle.utoipa_conflicts.specs.Merged.{in_text}
use Rattle.utoipa_conflicts.specs.Views.{conflict_of, all_told}
use Rattle.utoipa_conflicts.proofs.told.all_in_text.Given as goal

abbrev pub invariant-loop-conflict : goal.invariant-loop-conflict
invariant-loop-conflict l = all_told l.told.items ≡ map (λ c. in_text (conflict_of c)) (take l.conflict-index l.conflicts)
