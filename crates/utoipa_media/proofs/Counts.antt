-- The members of contents, encodings and headers that hold these themselves have together fewer values than their object.
use Rattle.std.proofs.Common.{◌+◌, ◌<◌, ℕ, List, [], ◌∷◌, refl, arith, codes}
use Rattle.serde_json.specs.Data.{Data}
use Rattle.utoipa_base.specs.Values.{values, values_at}
use Rattle.utoipa_base.proofs.Values.{names_fewer}

abbrev encoding_members : List (List ℕ)
encoding_members = codes "headers" ∷ codes "encoding" ∷ codes "prefixEncoding" ∷ codes "itemEncoding" ∷ []

-- of an encoding; those of a content are among them
pub encoding_values : (d : Data) → values_at (codes "headers") d + (values_at (codes "encoding") d + (values_at (codes "prefixEncoding") d + values_at (codes "itemEncoding") d)) < values d
encoding_values d =
    let h : values_at (codes "headers") d + (values_at (codes "encoding") d + (values_at (codes "prefixEncoding") d + (values_at (codes "itemEncoding") d + 0))) < values d = names_fewer encoding_members d refl in
    omega (arith, h)

-- of a header
pub header_values : (d : Data) → values_at (codes "content") d < values d
header_values d =
    let h : values_at (codes "content") d + 0 < values d = names_fewer (codes "content" ∷ []) d refl in
    omega (arith, h)
