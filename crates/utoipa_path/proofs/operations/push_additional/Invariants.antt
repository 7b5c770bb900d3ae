use Rattle.std.proofs.Common.{◌≡◌, ◌++◌, map}
use Rattle.utoipa_path.specs.Operations.{all_keyed, additional_entry}
use Rattle.utoipa_path.proofs.operations.push_additional.Given as goal

abbrev pub invariant-loop-name : goal.invariant-loop-name
invariant-loop-name l =
    all_keyed l.found.items ++ map additional_entry l.name-iterator ≡ all_keyed l.initial.found.items ++ map additional_entry l.operations.entries
