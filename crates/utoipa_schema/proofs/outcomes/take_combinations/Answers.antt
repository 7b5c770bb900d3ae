use Rattle.std.proofs.Common.{true, sym}
use Rattle.utoipa_schema.specs.Places.{data_of}
use Rattle.utoipa_schema.proofs.Taken.{both_taken, taken_as}
use Rattle.utoipa_schema.proofs.Walks.{combinations-parts}
use Rattle.utoipa_schema.proofs.outcomes.take_combinations.Goals as goal

pub returns-clause-read : goal.returns-clause-read
returns-clause-read c =
    let later = both_taken _ _ _ _ _ _ _ (c.take_list-any_of.ensures.read true) (c.take_list-all_of.ensures.read true) in
    let all = both_taken _ _ _ _ _ _ _ later (c.take_list-one_of.ensures.read true) in
    taken_as _ _ _ _ _ _ (sym (combinations-parts (data_of c.args.members.now))) all (λ t. record { one_of = t.0; all_of = t.1.0; any_of = t.1.1 })
