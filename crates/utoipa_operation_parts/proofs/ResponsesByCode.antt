-- Responses that are put under their codes, as documents.
use Rattle.std.proofs.Common.{◌≡◌, [], ◌∷◌, refl, ap, ◌∙◌, String, Global, Ordering, Less, Equal, Greater, string_bytes, string_cmp}
use Rattle.std.specs.BTreeMap.{insert_entry}
use Rattle.std.specs.Cmp.Lexicographic.{slice_cmp}
use Rattle.std.specs.Ordering.{match_ordering, nat_cmp}
use Rattle.utoipa_base.specs.Docs.{Doc}
use Rattle.utoipa_base.specs.Fill.{Pairs, put_each}
use Rattle.utoipa_base.specs.Views.{pairs_of}
use Rattle.utoipa_operation_parts.specs.Traits.{with_later}

-- an entry that is put, by what its name is to the first one's
put_at : {X : Type 0} (f : X → Doc) (e : String Global × X) (es : Pairs X) (k : String Global) (v : X) (o : Ordering)
    → pairs_of f (insert_entry string_cmp es k v) ≡ insert_entry (slice_cmp nat_cmp) (pairs_of f es) (string_bytes k) (f v)
    → pairs_of f (match_ordering o ((k, v) ∷ e ∷ es) ((e.0, v) ∷ es) (e ∷ insert_entry string_cmp es k v))
    ≡ match_ordering o ((string_bytes k, f v) ∷ pairs_of f (e ∷ es)) ((string_bytes e.0, f v) ∷ pairs_of f es) ((string_bytes e.0, f e.1) ∷ insert_entry (slice_cmp nat_cmp) (pairs_of f es) (string_bytes k) (f v))
put_at f e es k v Less rest = refl
put_at f e es k v Equal rest = refl
put_at f e es k v Greater rest = ap (λ ps. (string_bytes e.0, f e.1) ∷ ps) rest

put_one : {X : Type 0} (f : X → Doc) (es : Pairs X) (k : String Global) (v : X)
    → pairs_of f (insert_entry string_cmp es k v) ≡ insert_entry (slice_cmp nat_cmp) (pairs_of f es) (string_bytes k) (f v)
put_one f [] k v = refl
put_one f (e ∷ es) k v = put_at f e es k v (string_cmp k e.0) (put_one f es k v)

-- the documents of entries that are put are those of the entries, put alike
pub put_as_docs : {X : Type 0} (f : X → Doc) (ps es : Pairs X) → pairs_of f (put_each ps es) ≡ with_later (pairs_of f es) (pairs_of f ps)
put_as_docs f [] es = refl
put_as_docs f (p ∷ ps) es = put_as_docs f ps (insert_entry string_cmp es p.0 p.1) ∙ ap (λ qs. with_later qs (pairs_of f ps)) (put_one f es p.0 p.1)
