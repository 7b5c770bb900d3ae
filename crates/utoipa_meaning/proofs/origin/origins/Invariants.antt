use Rattle.std.proofs.Common.{◌≡◌, drop}
use Rattle.std.specs.Option.{option_or}
use Rattle.utoipa_meaning.specs.Operations as specs
use Rattle.utoipa_meaning.specs.Views.{noted, trees_of}
use Rattle.utoipa_meaning.proofs.origin.origins.Given as goal

abbrev pub invariant-loop-number : goal.invariant-loop-number
invariant-loop-number l = (p : specs.OperationPlace)
    → option_or (noted l.origins p) (specs.first_with p l.number (trees_of (drop l.number l.documents))) ≡ specs.first_with p 0 (trees_of l.documents)
