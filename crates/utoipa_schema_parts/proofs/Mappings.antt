-- Mappings that are put one after the other.
use Rattle.std.proofs.Common.{String, Global, ◌≡◌, [], ◌∷◌, ◌++◌, refl, string_cmp}
use Rattle.std.specs.BTreeMap.{insert_entry}
use Rattle.utoipa_schema_parts.specs.Discriminator.{Mapping, put_mapping}

-- one more pair is put last
pub put_mapping-last : (ps : Mapping) (p : String Global × String Global) (es : Mapping) → put_mapping (ps ++ p ∷ []) es ≡ insert_entry string_cmp (put_mapping ps es) p.0 p.1
put_mapping-last [] p es = refl
put_mapping-last (x ∷ ps) p es = put_mapping-last ps p (insert_entry string_cmp es x.0 x.1)
