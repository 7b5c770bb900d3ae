use Rattle.std.proofs.Common.{◌≡◌, ◌++◌, drop}
use Rattle.utoipa_meaning.specs.Meaning.{not_overridden}
use Rattle.utoipa_meaning.specs.Views.{has_key, borrowed}
use Rattle.utoipa_meaning.proofs.parameters.push_others.Given as goal

abbrev pub invariant-loop-parameter : goal.invariant-loop-parameter
invariant-loop-parameter l =
    borrowed l.found.items ++ not_overridden (has_key l.keys) (borrowed (drop l.parameter-index l.parameters.items))
    ≡ borrowed l.initial.found.items ++ not_overridden (has_key l.keys) (borrowed l.parameters.items)
