-- What stands in a map once each entry of another was put into it.
use Rattle.std.proofs.Common.{◌≡◌, ℕ, List, [], ◌∷◌, Bool, true, false, cond, Some, refl, sym, ap, ◌∙◌, String, Global, Ordering, Less, Equal, Greater, string_bytes, string_cmp, nat_cmp, subst, Result, Ok, Err, OnOk, OnErr}
use Rattle.std.specs.Option.{option_or}
use Rattle.std.specs.Str.{bytes_eq}
use Rattle.std.specs.Ordering.{match_ordering}
use Rattle.std.specs.Cmp.Lexicographic.{slice_cmp}
use Rattle.std.specs.List.Sorted.{IsStrictlySortedBy}
use Rattle.std.specs.Map.{keys_of}
use Rattle.std.specs.BTreeMap.{insert_entry}
use Rattle.std.specs.String.{string_cmp_total}
use Rattle.std.proofs.lemmas.Cmp.{nat_list_cmp_total, tied_itself}
use Rattle.std.proofs.lemmas.Map.Keys.{sorted_tail}
use Rattle.std.proofs.lemmas.Map.Lookups.{exact_bytes}
use Rattle.utoipa_base.specs.Fill.{Pairs, put_each}
use Rattle.utoipa_merging.proofs.Inserted.{sorted_insert}
use Rattle.utoipa_merging.proofs.Lookups.{found, found-cons, same_text, found_past}

-- ---- what is found by the bytes of a name

pub again : {A : Type 0} (b : Bool) (x y o : A) → cond b x o ≡ cond b x (cond b y o)
again true x y o = refl
again false x y o = refl

pub swapped : {A : Type 0} (b c : Bool) (x y o : A) → (b ≡ true → c ≡ true → ⊥) → cond b x (cond c y o) ≡ cond c y (cond b x o)
swapped true true x y o apart = absurd (apart refl refl)
swapped true false x y o apart = refl
swapped false c x y o apart = refl

-- a text stands at its own place in the order
not_above : (q a b : List ℕ) → slice_cmp nat_cmp a b ≡ Greater → bytes_eq q b ≡ true → bytes_eq q a ≡ true → ⊥
not_above q a b above e f =
    let same : a ≡ b = sym (same_text q a f) ∙ same_text q b e in
    let level : slice_cmp nat_cmp a b ≡ Equal = ap (slice_cmp nat_cmp a) (sym same) ∙ tied_itself nat_list_cmp_total a in
    cc

found-put_at : {X : Type 0} (o : Ordering) (e : String Global × X) (es : Pairs X) (k : String Global) (v : X) (q : List ℕ) → string_cmp k e.0 ≡ o
    → found (insert_entry string_cmp es k v) q ≡ cond (bytes_eq q (string_bytes k)) (Some v) (found es q)
    → found (match_ordering o ((k, v) ∷ e ∷ es) ((e.0, v) ∷ es) (e ∷ insert_entry string_cmp es k v)) q ≡ cond (bytes_eq q (string_bytes k)) (Some v) (found (e ∷ es) q)
found-put_at Less e es k v q is later = found-cons q (k, v) (e ∷ es)
found-put_at Equal e es k v q is later =
    let same : string_bytes k ≡ string_bytes e.0 = exact_bytes (string_bytes k) (string_bytes e.0) is in
    found-cons q (e.0, v) es
    ∙ ap (λ n. cond (bytes_eq q n) (Some v) (found es q)) (sym same)
    ∙ again (bytes_eq q (string_bytes k)) (Some v) (Some e.1) (found es q)
    ∙ ap (cond (bytes_eq q (string_bytes k)) (Some v)) (ap (λ n. cond (bytes_eq q n) (Some e.1) (found es q)) same ∙ sym (found-cons q e es))
found-put_at Greater e es k v q is later =
    found-cons q e (insert_entry string_cmp es k v)
    ∙ ap (cond (bytes_eq q (string_bytes e.0)) (Some e.1)) later
    ∙ swapped (bytes_eq q (string_bytes e.0)) (bytes_eq q (string_bytes k)) (Some e.1) (Some v) (found es q) (not_above q (string_bytes k) (string_bytes e.0) is)
    ∙ ap (cond (bytes_eq q (string_bytes k)) (Some v)) (sym (found-cons q e es))

-- an entry that was put stands under its name, and under each other name what stood there
pub found-insert_entry : {X : Type 0} (es : Pairs X) (k : String Global) (v : X) (q : List ℕ) → found (insert_entry string_cmp es k v) q ≡ cond (bytes_eq q (string_bytes k)) (Some v) (found es q)
found-insert_entry [] k v q = found-cons q (k, v) []
found-insert_entry (e ∷ es) k v q = found-put_at (string_cmp k e.0) e es k v q refl (found-insert_entry es k v q)

-- after the entries of an ordered map were put, under a name stands the later value, or else the earlier
pub found-put_each : {X : Type 0} (ps es : Pairs X) → IsStrictlySortedBy string_cmp (keys_of ps) → (q : List ℕ) → found (put_each ps es) q ≡ option_or (found ps q) (found es q)
found-put_each [] es sorted q = refl
found-put_each (p ∷ ps) es sorted q =
    found-put_each ps (insert_entry string_cmp es p.0 p.1) (sorted_tail string_cmp p.0 (keys_of ps) sorted) q
    ∙ ap (option_or (found ps q)) (found-insert_entry es p.0 p.1 q)
    ∙ step (bytes_eq q (string_bytes p.0)) refl
    ∙ ap (λ o. option_or o (found es q)) (sym (found-cons q p ps))
  where
    step : (b : Bool) → bytes_eq q (string_bytes p.0) ≡ b → option_or (found ps q) (cond b (Some p.1) (found es q)) ≡ option_or (cond b (Some p.1) (found ps q)) (found es q)
    step true same = ap (λ o. option_or o (Some p.1)) (ap (found ps) (same_text q (string_bytes p.0) same) ∙ found_past p ps sorted)
    step false same = refl

-- ---- the order of the names

-- names in order stay so when an entry is put
pub sorted-insert_entry : {X : Type 0} (es : Pairs X) (k : String Global) (v : X) → IsStrictlySortedBy string_cmp (keys_of es) → IsStrictlySortedBy string_cmp (keys_of (insert_entry string_cmp es k v))
sorted-insert_entry es k v h = sorted_insert string_cmp_total es k v h

-- and when each entry of another map is put
pub sorted-put_each : {X : Type 0} (ps es : Pairs X) → IsStrictlySortedBy string_cmp (keys_of es) → IsStrictlySortedBy string_cmp (keys_of (put_each ps es))
sorted-put_each [] es h = h
sorted-put_each (p ∷ ps) es h = sorted-put_each ps (insert_entry string_cmp es p.0 p.1) (sorted-insert_entry es p.0 p.1 h)

-- whether all were put or none
pub sorted-put_all : {X T E : Type 0} (r : Result T E) (ps es new : Pairs X) → OnOk r (new ≡ put_each ps es) → OnErr r (new ≡ es) → IsStrictlySortedBy string_cmp (keys_of es) → IsStrictlySortedBy string_cmp (keys_of new)
sorted-put_all (Ok x) ps es new ok err h = subst (λ fs. IsStrictlySortedBy string_cmp (keys_of fs)) (sym ok) (sorted-put_each ps es h)
sorted-put_all (Err e) ps es new ok err h = subst (λ fs. IsStrictlySortedBy string_cmp (keys_of fs)) (sym err) h
