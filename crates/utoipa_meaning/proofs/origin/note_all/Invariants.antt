use Rattle.std.proofs.Common.{◌≡◌, drop}
use Rattle.std.specs.Option.{option_or}
use Rattle.utoipa_meaning.specs.Operations as specs
use Rattle.utoipa_meaning.specs.Views.{noted, all_operations}
use Rattle.utoipa_meaning.proofs.origin.note_all.Given as goal

abbrev pub invariant-loop-operation : goal.invariant-loop-operation
invariant-loop-operation l = (p : specs.OperationPlace)
    → option_or (noted l.origins p) (specs.if_so (specs.stands_among p (all_operations (drop l.operation-index l.operations.items))) l.number)
    ≡ option_or (noted l.initial.origins p) (specs.if_so (specs.stands_among p (all_operations l.operations.items)) l.number)
