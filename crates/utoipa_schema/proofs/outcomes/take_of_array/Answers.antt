use Rattle.std.proofs.Common.{true, false, sym}
use Rattle.utoipa_schema.specs.Places.{data_of}
use Rattle.utoipa_schema.proofs.Taken.{both_taken, taken_as}
use Rattle.utoipa_schema.proofs.Walks.{array-parts}
use Rattle.utoipa_schema.proofs.outcomes.take_of_array.Goals as goal

pub returns-clause-read : goal.returns-clause-read
returns-clause-read c =
    let all = both_taken _ _ _ _ _ _ _ (c.take_list-prefix_items.ensures.read false) (c.take_one-items.ensures.read true) in
    taken_as _ _ _ _ _ _ (sym (array-parts (data_of c.args.members.now))) all (λ t. record { items = t.0; prefix_items = t.1 })
