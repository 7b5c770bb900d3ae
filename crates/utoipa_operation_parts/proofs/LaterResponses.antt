-- The response under a code, where the later of two stands.
use Rattle.std.proofs.Common.{◌≡◌, ◌∙◌, ℕ, List, [], ◌∷◌, Bool, true, false, cond, Option, Some, None, Ordering, Less, Equal, Greater, refl, sym, ap}
use Rattle.std.proofs.lemmas.Map.Text.{is_eq-slice_cmp}
use Rattle.std.proofs.lemmas.Slice.Eq.{bytes_eq-Decides}
use Rattle.std.specs.BTreeMap.{insert_entry, is_at}
use Rattle.std.specs.Cmp.Lexicographic.{slice_cmp}
use Rattle.std.specs.Ordering.{match_ordering, nat_cmp, is_eq}
use Rattle.utoipa_base.specs.Docs.{Doc}
use Rattle.utoipa_operation_parts.specs.Traits.{ByCode, answered_under, last_under, or_first, with_later}

-- ---- names

-- a code that is compared as equal to two names is both of them
one_name : (code k l : List ℕ) → is_eq (slice_cmp nat_cmp code k) ≡ true → is_eq (slice_cmp nat_cmp code l) ≡ true → k ≡ l
one_name code k l at_k at_l = sym ((bytes_eq-Decides code k).0 (sym (is_eq-slice_cmp code k) ∙ at_k)) ∙ (bytes_eq-Decides code l).0 (sym (is_eq-slice_cmp code l) ∙ at_l)

equal_names : (k l : List ℕ) → slice_cmp nat_cmp k l ≡ Equal → k ≡ l
equal_names k l is = (bytes_eq-Decides k l).0 (sym (is_eq-slice_cmp k l) ∙ ap is_eq is)

never_greater : (k l : List ℕ) → slice_cmp nat_cmp k l ≡ Greater → k ≡ l → ⊥
never_greater k l is same =
    let both : true ≡ false = sym ((bytes_eq-Decides k l).1 same) ∙ sym (is_eq-slice_cmp k l) ∙ ap is_eq is in
    absurd (cc)

-- ---- one response more

replaced : (b : Bool) (v d : Doc) (rest : Option Doc) → cond b (Some v) rest ≡ cond b (Some v) (cond b (Some d) rest)
replaced true v d rest = refl
replaced false v d rest = refl

passed : (a b : Bool) (v d : Doc) (rest : Option Doc) → (a ≡ true → b ≡ true → ⊥) → cond b (Some d) (cond a (Some v) rest) ≡ cond a (Some v) (cond b (Some d) rest)
passed true true v d rest never = absurd (never refl refl)
passed true false v d rest never = refl
passed false true v d rest never = refl
passed false false v d rest never = refl

one_at : (o : Ordering) (code k l : List ℕ) (v d : Doc) (es rest : ByCode) → slice_cmp nat_cmp k l ≡ o
    → answered_under code rest ≡ cond (is_at (slice_cmp nat_cmp code) k) (Some v) (answered_under code es)
    → answered_under code (match_ordering o ((k, v) ∷ (l, d) ∷ es) ((l, v) ∷ es) ((l, d) ∷ rest))
    ≡ cond (is_at (slice_cmp nat_cmp code) k) (Some v) (answered_under code ((l, d) ∷ es))
one_at Less code k l v d es rest is later = refl
one_at Equal code k l v d es rest is later = rw (equal_names k l is) (replaced (is_at (slice_cmp nat_cmp code) l) v d (answered_under code es))
one_at Greater code k l v d es rest is later =
    ap (cond (is_at (slice_cmp nat_cmp code) l) (Some d)) later
    ∙ passed (is_at (slice_cmp nat_cmp code) k) (is_at (slice_cmp nat_cmp code) l) v d (answered_under code es) (λ at_k at_l. never_greater k l is (one_name code k l at_k at_l))

one_more : (code k : List ℕ) (v : Doc) (es : ByCode)
    → answered_under code (insert_entry (slice_cmp nat_cmp) es k v) ≡ cond (is_at (slice_cmp nat_cmp code) k) (Some v) (answered_under code es)
one_more code k v [] = refl
one_more code k v (e ∷ es) = one_at (slice_cmp nat_cmp k e.0) code k e.0 v e.1 es (insert_entry (slice_cmp nat_cmp) es k v) refl (one_more code k v es)

-- ---- all of them

abbrev pub over : Option Doc → Option Doc → Option Doc
over None earlier = earlier
over (Some later) earlier = Some later

first_of_later : (b : Bool) (r : Doc) (later earlier : Option Doc) → over later (cond b (Some r) earlier) ≡ over (or_first b r later) earlier
first_of_later true r None earlier = refl
first_of_later false r None earlier = refl
first_of_later b r (Some l) earlier = refl

pub later_stands : (code : List ℕ) (later earlier : ByCode) → answered_under code (with_later earlier later) ≡ over (last_under code later) (answered_under code earlier)
later_stands code [] earlier = refl
later_stands code (r ∷ later) earlier =
    later_stands code later (insert_entry (slice_cmp nat_cmp) earlier r.0 r.1)
    ∙ ap (over (last_under code later)) (one_more code r.0 r.1 earlier)
    ∙ first_of_later (is_at (slice_cmp nat_cmp code) r.0) r.1 (last_under code later) (answered_under code earlier)
