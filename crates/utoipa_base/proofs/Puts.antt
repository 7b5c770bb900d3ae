-- Pairs that are put one after the other.
use Rattle.std.proofs.Common.{String, Global, ◌≡◌, [], ◌∷◌, ◌++◌, refl, string_cmp}
use Rattle.std.specs.BTreeMap.{insert_entry}
use Rattle.utoipa_base.specs.Fill.{Pairs, put_each}

-- one more pair is put last
pub put_each-last : {X : Type 0} (ps : Pairs X) (p : String Global × X) (es : Pairs X) → put_each (ps ++ p ∷ []) es ≡ insert_entry string_cmp (put_each ps es) p.0 p.1
put_each-last [] p es = refl
put_each-last (x ∷ ps) p es = put_each-last ps p (insert_entry string_cmp es x.0 x.1)
