use Rattle.std.proofs.Common.{true, false, sym}
use Rattle.utoipa_schema.specs.Places.{data_of}
use Rattle.utoipa_schema.proofs.Taken.{both_taken, taken_as}
use Rattle.utoipa_schema.proofs.Walks.{object-parts}
use Rattle.utoipa_schema.proofs.outcomes.take_of_object.Goals as goal

pub returns-clause-read : goal.returns-clause-read
returns-clause-read c =
    let later = both_taken _ _ _ _ _ _ _ (c.take_one-property_names.ensures.read false) (c.take_one-additional_properties.ensures.read true) in
    let all = both_taken _ _ _ _ _ _ _ later (c.take_map-properties.ensures.read true) in
    taken_as _ _ _ _ _ _ (sym (object-parts (data_of c.args.members.now))) all (λ t. record { properties = t.0; additional_properties = t.1.0; property_names = t.1.1 })
