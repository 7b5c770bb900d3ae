-- Scopes that are put one after the other.
use Rattle.std.proofs.Common.{String, Global, ◌≡◌, [], ◌∷◌, ◌++◌, refl, string_cmp}
use Rattle.std.specs.BTreeMap.{insert_entry}
use Rattle.utoipa_security.specs.Scopes.{Descriptions, put_descriptions}

-- one more pair is put last
pub put_descriptions-last : (ps : Descriptions) (p : String Global × String Global) (es : Descriptions) → put_descriptions (ps ++ p ∷ []) es ≡ insert_entry string_cmp (put_descriptions ps es) p.0 p.1
put_descriptions-last [] p es = refl
put_descriptions-last (x ∷ ps) p es = put_descriptions-last ps p (insert_entry string_cmp es x.0 x.1)
