use Rattle.std.proofs.Common.{◌≡◌, ◌+◌, ◌-◌, suc}
use Rattle.serde_json.specs.View.{view}
use Rattle.utoipa_meaning.specs.Meaning.{found_parameter, parameter_count}
use Rattle.utoipa_meaning.proofs.parameters.meant_parameter.Given as goal

abbrev pub invariant-loop : goal.invariant-loop
invariant-loop l =
    found_parameter (l.end + 1 - l.counter) (view l.document) (view l.reached) ≡ found_parameter (suc (parameter_count (view l.document))) (view l.document) (view l.fn.parameter)
