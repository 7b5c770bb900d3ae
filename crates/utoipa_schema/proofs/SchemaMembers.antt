-- The members of an object that hold schemas.
use Rattle.std.proofs.Common.{◌+◌, ◌<◌, ℕ, List, [], ◌∷◌, refl, arith, codes}
use Rattle.serde_json.specs.Data.{Data}
use Rattle.utoipa_base.specs.Values.{values, values_at}
use Rattle.utoipa_base.proofs.Values.{names_fewer}

abbrev schema_members : List (List ℕ)
schema_members = codes "oneOf" ∷ codes "allOf" ∷ codes "anyOf" ∷ codes "contentSchema" ∷ codes "items" ∷ codes "prefixItems" ∷ codes "properties" ∷ codes "additionalProperties" ∷ codes "propertyNames" ∷ []

-- the members that hold schemas have together fewer values than their object, however many alternatives read them
pub schema_values : (d : Data) →
    values_at (codes "oneOf") d + (values_at (codes "allOf") d + (values_at (codes "anyOf") d + (values_at (codes "contentSchema") d
    + ((values_at (codes "items") d + values_at (codes "prefixItems") d)
    + (values_at (codes "properties") d + values_at (codes "additionalProperties") d + values_at (codes "propertyNames") d))))) < values d
schema_values d =
    let h : values_at (codes "oneOf") d + (values_at (codes "allOf") d + (values_at (codes "anyOf") d + (values_at (codes "contentSchema") d + (values_at (codes "items") d + (values_at (codes "prefixItems") d + (values_at (codes "properties") d + (values_at (codes "additionalProperties") d + (values_at (codes "propertyNames") d + 0)))))))) < values d = names_fewer schema_members d refl in
    omega (arith, h)
