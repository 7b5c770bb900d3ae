-- Pairs that are put into a map of their own first, whose entries are then put into another map: the same as putting the pairs there.
use Rattle.std.proofs.Common.{◌≡◌, List, [], ◌∷◌, refl, sym, ap, ◌∙◌, String, Global, Ordering, Less, Equal, Greater, string_cmp}
use Rattle.std.specs.Ordering.{match_ordering, ordering_reverse}
use Rattle.std.specs.List.{AllByRecursion}
use Rattle.std.specs.List.Sorted.{IsStrictlySortedBy}
use Rattle.std.specs.Map.{keys_of}
use Rattle.std.specs.BTreeMap.{insert_entry}
use Rattle.std.specs.String.{string_cmp_total}
use Rattle.utoipa_base.specs.Fill.{Pairs, put_each}
use Rattle.utoipa_merging.proofs.PutEach.{sorted-insert_entry}

-- ---- names in their order

after : (a b : String Global) → string_cmp a b ≡ Less → string_cmp b a ≡ Greater
after a b is = string_cmp_total.antisymm b a ∙ ap ordering_reverse is

before : (a b : String Global) → string_cmp a b ≡ Greater → string_cmp b a ≡ Less
before a b is = string_cmp_total.antisymm b a ∙ ap ordering_reverse is

-- a name that comes before each name that another comes before
below_all : (a b : String Global) (ks : List (String Global)) → ((y : String Global) → string_cmp b y ≡ Less → string_cmp a y ≡ Less) → AllByRecursion (λ y. string_cmp b y ≡ Less) ks → AllByRecursion (λ y. string_cmp a y ≡ Less) ks
below_all a b [] more h = tt
below_all a b (k ∷ ks) more h = (more k h.0, below_all a b ks more h.1)

-- ---- two entries that are put

-- an entry that is put, by what the first name is to its own
put_at : {X : Type 0} (o : Ordering) (e : String Global × X) (es : Pairs X) (k : String Global) (v : X) → string_cmp k e.0 ≡ o
    → insert_entry string_cmp (e ∷ es) k v ≡ match_ordering o ((k, v) ∷ e ∷ es) ((e.0, v) ∷ es) (e ∷ insert_entry string_cmp es k v)
put_at o e es k v is = ap (λ p. match_ordering p ((k, v) ∷ e ∷ es) ((e.0, v) ∷ es) (e ∷ insert_entry string_cmp es k v)) is

again_at : {X : Type 0} (o : Ordering) (e : String Global × X) (es : Pairs X) (k j : String Global) (v w : X) → string_cmp j k ≡ Equal → string_cmp j e.0 ≡ o
    → insert_entry string_cmp (insert_entry string_cmp es k v) j w ≡ insert_entry string_cmp es k w
    → insert_entry string_cmp (match_ordering o ((k, v) ∷ e ∷ es) ((e.0, v) ∷ es) (e ∷ insert_entry string_cmp es k v)) j w ≡ match_ordering o ((k, w) ∷ e ∷ es) ((e.0, w) ∷ es) (e ∷ insert_entry string_cmp es k w)
again_at Less e es k j v w same is later = put_at Equal (k, v) (e ∷ es) j w same
again_at Equal e es k j v w same is later = put_at Equal (e.0, v) es j w is
again_at Greater e es k j v w same is later = put_at Greater e (insert_entry string_cmp es k v) j w is ∙ ap (λ rest. e ∷ rest) later

-- of two entries of a name the later one stays
again : {X : Type 0} (es : Pairs X) (k j : String Global) (v w : X) → string_cmp j k ≡ Equal → insert_entry string_cmp (insert_entry string_cmp es k v) j w ≡ insert_entry string_cmp es k w
again [] k j v w same = put_at Equal (k, v) [] j w same
again (e ∷ es) k j v w same = again_at (string_cmp k e.0) e es k j v w same (string_cmp_total.congr j k e.0 same) (again es k j v w same)

-- an entry whose name comes before another and before the first one's is put in front of both
put_first : {X : Type 0} (o : Ordering) (e : String Global × X) (es : Pairs X) (k j : String Global) (v w : X) → string_cmp k j ≡ Less → string_cmp k e.0 ≡ Less
    → insert_entry string_cmp (match_ordering o ((j, w) ∷ e ∷ es) ((e.0, w) ∷ es) (e ∷ insert_entry string_cmp es j w)) k v ≡ (k, v) ∷ match_ordering o ((j, w) ∷ e ∷ es) ((e.0, w) ∷ es) (e ∷ insert_entry string_cmp es j w)
put_first Less e es k j v w below is = put_at Less (j, w) (e ∷ es) k v below
put_first Equal e es k j v w below is = put_at Less (e.0, w) es k v is
put_first Greater e es k j v w below is = put_at Less e (insert_entry string_cmp es j w) k v is

swapped_at : {X : Type 0} (o : Ordering) (e : String Global × X) (es : Pairs X) (k j : String Global) (v w : X) → string_cmp k j ≡ Less → string_cmp k e.0 ≡ o
    → insert_entry string_cmp (insert_entry string_cmp es k v) j w ≡ insert_entry string_cmp (insert_entry string_cmp es j w) k v
    → insert_entry string_cmp (match_ordering o ((k, v) ∷ e ∷ es) ((e.0, v) ∷ es) (e ∷ insert_entry string_cmp es k v)) j w ≡ insert_entry string_cmp (insert_entry string_cmp (e ∷ es) j w) k v
swapped_at Less e es k j v w below is later = put_at Greater (k, v) (e ∷ es) j w (after k j below) ∙ sym (put_first (string_cmp j e.0) e es k j v w below is)
swapped_at Equal e es k j v w below is later =
    let past : string_cmp j e.0 ≡ Greater = after e.0 j (sym (string_cmp_total.congr k e.0 j is) ∙ below) in
    put_at Greater (e.0, v) es j w past
    ∙ sym (ap (λ fs. insert_entry string_cmp fs k v) (put_at Greater e es j w past) ∙ put_at Equal e (insert_entry string_cmp es j w) k v is)
swapped_at Greater e es k j v w below is later =
    let past : string_cmp j e.0 ≡ Greater = after e.0 j (string_cmp_total.trans e.0 k j (before k e.0 is) below) in
    put_at Greater e (insert_entry string_cmp es k v) j w past
    ∙ ap (λ rest. e ∷ rest) later
    ∙ sym (ap (λ fs. insert_entry string_cmp fs k v) (put_at Greater e es j w past) ∙ put_at Greater e (insert_entry string_cmp es j w) k v is)

-- entries of two names are put in either order
swapped : {X : Type 0} (es : Pairs X) (k j : String Global) (v w : X) → string_cmp k j ≡ Less → insert_entry string_cmp (insert_entry string_cmp es k v) j w ≡ insert_entry string_cmp (insert_entry string_cmp es j w) k v
swapped [] k j v w below = put_at Greater (k, v) [] j w (after k j below) ∙ sym (put_at Less (j, w) [] k v below)
swapped (e ∷ es) k j v w below = swapped_at (string_cmp k e.0) e es k j v w below refl (swapped es k j v w below)

-- ---- pairs that are put

-- an entry is put before the pairs or after them, where its name comes before all of theirs
put_before : {X : Type 0} (es : Pairs X) (k : String Global) (v : X) (fs : Pairs X) → AllByRecursion (λ y. string_cmp k y ≡ Less) (keys_of es) → put_each es (insert_entry string_cmp fs k v) ≡ insert_entry string_cmp (put_each es fs) k v
put_before [] k v fs below = refl
put_before (e ∷ es) k v fs below = ap (put_each es) (swapped fs k e.0 v e.1 below.0) ∙ put_before es k v (insert_entry string_cmp fs e.0 e.1) below.1

put_among_at : {X : Type 0} (o : Ordering) (e : String Global × X) (es : Pairs X) (k : String Global) (v : X) (fs : Pairs X) → string_cmp k e.0 ≡ o → IsStrictlySortedBy string_cmp (keys_of (e ∷ es))
    → put_each (insert_entry string_cmp es k v) (insert_entry string_cmp fs e.0 e.1) ≡ insert_entry string_cmp (put_each es (insert_entry string_cmp fs e.0 e.1)) k v
    → put_each (match_ordering o ((k, v) ∷ e ∷ es) ((e.0, v) ∷ es) (e ∷ insert_entry string_cmp es k v)) fs ≡ insert_entry string_cmp (put_each (e ∷ es) fs) k v
unfolding IsStrictlySortedBy
put_among_at Less e es k v fs is sorted later = put_before (e ∷ es) k v fs (is, below_all k e.0 (keys_of es) (λ y. string_cmp_total.trans k e.0 y is) sorted.0)
put_among_at Equal e es k v fs is sorted later =
    sym (ap (put_each es) (again fs e.0 k e.1 v is))
    ∙ put_before es k v (insert_entry string_cmp fs e.0 e.1) (below_all k e.0 (keys_of es) (λ y below. string_cmp_total.congr k e.0 y is ∙ below) sorted.0)
put_among_at Greater e es k v fs is sorted later = later

-- an entry is put among the entries of a map, or after them
put_among : {X : Type 0} (es : Pairs X) (k : String Global) (v : X) (fs : Pairs X) → IsStrictlySortedBy string_cmp (keys_of es) → put_each (insert_entry string_cmp es k v) fs ≡ insert_entry string_cmp (put_each es fs) k v
unfolding IsStrictlySortedBy
put_among [] k v fs sorted = refl
put_among (e ∷ es) k v fs sorted = put_among_at (string_cmp k e.0) e es k v fs refl sorted (put_among es k v (insert_entry string_cmp fs e.0 e.1) sorted.1)

-- pairs are put among the entries of a map, or after them
put_all_among : {X : Type 0} (ps es fs : Pairs X) → IsStrictlySortedBy string_cmp (keys_of es) → put_each (put_each ps es) fs ≡ put_each ps (put_each es fs)
put_all_among [] es fs sorted = refl
put_all_among (p ∷ ps) es fs sorted =
    put_all_among ps (insert_entry string_cmp es p.0 p.1) fs (sorted-insert_entry es p.0 p.1 sorted)
    ∙ ap (put_each ps) (put_among es p.0 p.1 fs sorted)

-- the entries of a map that has been filled with the pairs alone
pub put_twice : {X : Type 0} (ps fs : Pairs X) → put_each (put_each ps []) fs ≡ put_each ps fs
unfolding IsStrictlySortedBy
put_twice ps fs = put_all_among ps [] fs tt
