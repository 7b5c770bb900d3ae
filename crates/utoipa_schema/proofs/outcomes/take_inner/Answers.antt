use Rattle.std.proofs.Common.{true, sym}
use Rattle.utoipa_schema.specs.Places.{data_of}
use Rattle.utoipa_schema.proofs.Taken.{both_taken, taken_as}
use Rattle.utoipa_schema.proofs.Walks.{each-parts}
use Rattle.utoipa_schema.proofs.outcomes.take_inner.Goals as goal

pub returns-clause-read : goal.returns-clause-read
returns-clause-read c =
    let two = both_taken _ _ _ _ _ _ _ (c.take_one-content_schema.ensures.read true) c.take_of_object-object.ensures.read in
    let three = both_taken _ _ _ _ _ _ _ two c.take_of_array-array.ensures.read in
    let all = both_taken _ _ _ _ _ _ _ three c.take_combinations-combinations.ensures.read in
    taken_as _ _ _ _ _ _ (sym (each-parts (data_of c.args.members.now))) all (λ t. record { combinations = t.0; array = t.1.0; object = t.1.1.0; content_schema = t.1.1.1 })
