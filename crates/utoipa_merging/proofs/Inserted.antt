-- Entries that are put into others stay in the order of their names.
use Rattle.std.proofs.Common.{◌≡◌, List, [], ◌∷◌, refl, ap, ◌∙◌, Ordering, Less, Equal, Greater}
use Rattle.std.specs.Cmp.{IsTotalOrder}
use Rattle.std.specs.Ordering.{match_ordering, ordering_reverse}
use Rattle.std.specs.List.{AllByRecursion}
use Rattle.std.specs.List.Sorted.{IsStrictlySortedBy}
use Rattle.std.specs.Map.{keys_of}
use Rattle.std.specs.BTreeMap.{insert_entry}

module _ {K : Type 0} {cmp : K → K → Ordering} (total : IsTotalOrder cmp) where
  -- a name before one that comes before all
  above_weaker : (a b : K) (ks : List K) → cmp a b ≡ Less → AllByRecursion (λ y. cmp b y ≡ Less) ks → AllByRecursion (λ y. cmp a y ≡ Less) ks
  above_weaker a b [] below h = tt
  above_weaker a b (k ∷ ks) below h = (total.trans a b k below h.0, above_weaker a b ks below h.1)

  all_put_at : {X : Type 0} (o : Ordering) (P : K → Type 0) (e : K × X) (es : List (K × X)) (k : K) (v : X) → P k → AllByRecursion P (keys_of (e ∷ es)) → AllByRecursion P (keys_of (insert_entry cmp es k v))
      → AllByRecursion P (keys_of (match_ordering o ((k, v) ∷ e ∷ es) ((e.0, v) ∷ es) (e ∷ insert_entry cmp es k v)))
  all_put_at Less P e es k v here h later = (here, h)
  all_put_at Equal P e es k v here h later = h
  all_put_at Greater P e es k v here h later = (h.0, later)

  all_put : {X : Type 0} (P : K → Type 0) (es : List (K × X)) (k : K) (v : X) → P k → AllByRecursion P (keys_of es) → AllByRecursion P (keys_of (insert_entry cmp es k v))
  all_put P [] k v here h = (here, tt)
  all_put P (e ∷ es) k v here h = all_put_at (cmp k e.0) P e es k v here h (all_put P es k v here h.1)

  sorted_put_at : {X : Type 0} (o : Ordering) (e : K × X) (es : List (K × X)) (k : K) (v : X) → cmp k e.0 ≡ o → IsStrictlySortedBy cmp (keys_of (e ∷ es)) → IsStrictlySortedBy cmp (keys_of (insert_entry cmp es k v))
      → IsStrictlySortedBy cmp (keys_of (match_ordering o ((k, v) ∷ e ∷ es) ((e.0, v) ∷ es) (e ∷ insert_entry cmp es k v)))
  unfolding IsStrictlySortedBy
  sorted_put_at Less e es k v is h later = ((is, above_weaker k e.0 (keys_of es) is h.0), h)
  sorted_put_at Equal e es k v is h later = h
  sorted_put_at Greater e es k v is h later = (all_put (λ y. cmp e.0 y ≡ Less) es k v (total.antisymm e.0 k ∙ ap ordering_reverse is) h.0, later)

  -- names in order stay so when an entry is put
  pub sorted_insert : {X : Type 0} (es : List (K × X)) (k : K) (v : X) → IsStrictlySortedBy cmp (keys_of es) → IsStrictlySortedBy cmp (keys_of (insert_entry cmp es k v))
  unfolding IsStrictlySortedBy
  sorted_insert [] k v h = (tt, tt)
  sorted_insert (e ∷ es) k v h = sorted_put_at (cmp k e.0) e es k v refl h (sorted_insert es k v h.1)
