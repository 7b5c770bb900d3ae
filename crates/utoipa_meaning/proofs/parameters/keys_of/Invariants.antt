use Rattle.std.proofs.Common.{◌≡◌, ◌||◌, drop}
use Rattle.utoipa_meaning.specs.Meaning.{Names, is_listed}
use Rattle.utoipa_meaning.specs.Views.{has_key, borrowed}
use Rattle.utoipa_meaning.proofs.parameters.keys_of.Given as goal

abbrev pub invariant-loop-parameter : goal.invariant-loop-parameter
invariant-loop-parameter l = (n : Names) → (is_listed n (borrowed (drop l.parameter-index l.parameters.items)) || has_key l.keys n) ≡ is_listed n (borrowed l.parameters.items)
