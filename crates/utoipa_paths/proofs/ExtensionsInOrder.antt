-- Members whose names ascend, with others put over them.
use Rattle.std.proofs.Common.{◌≡◌, ℕ, List, [], ◌∷◌, refl, ap, ◌∙◌, Ordering, Less, Equal, Greater, nat_cmp}
use Rattle.std.specs.Ordering.{match_ordering, ordering_reverse}
use Rattle.std.specs.Cmp.Lexicographic.{slice_cmp}
use Rattle.std.specs.List.{AllByRecursion}
use Rattle.std.specs.List.Sorted.{IsStrictlySortedBy}
use Rattle.std.proofs.lemmas.Cmp.{nat_list_cmp_total}
use Rattle.serde_json.specs.Data.{Data, Members, no_members, member, put}
use Rattle.utoipa_base.specs.Extensions.{overlaid}
use Rattle.utoipa_merging.specs.Merged.{Ascends, names_in}

above_weaker : (a b : List ℕ) (names : List (List ℕ)) → slice_cmp nat_cmp a b ≡ Less → AllByRecursion (λ n. slice_cmp nat_cmp b n ≡ Less) names → AllByRecursion (λ n. slice_cmp nat_cmp a n ≡ Less) names
above_weaker a b [] below h = tt
above_weaker a b (n ∷ names) below h = (nat_list_cmp_total.trans a b n below h.0, above_weaker a b names below h.1)

all_put_at : (o : Ordering) (P : List ℕ → Type 0) (k l : List ℕ) (d e : Data) (ms : Members) → P k → AllByRecursion P (names_in (member l e ms)) → AllByRecursion P (names_in (put k d ms))
    → AllByRecursion P (names_in (match_ordering o (member k d (member l e ms)) (member l d ms) (member l e (put k d ms))))
all_put_at Less P k l d e ms here h later = (here, h)
all_put_at Equal P k l d e ms here h later = h
all_put_at Greater P k l d e ms here h later = (h.0, later)

all_put : (P : List ℕ → Type 0) (k : List ℕ) (d : Data) (ms : Members) → P k → AllByRecursion P (names_in ms) → AllByRecursion P (names_in (put k d ms))
all_put P k d no_members here h = (here, tt)
all_put P k d (member l e ms) here h = all_put_at (slice_cmp nat_cmp k l) P k l d e ms here h (all_put P k d ms here h.1)

ascends_put_at : (o : Ordering) (k l : List ℕ) (d e : Data) (ms : Members) → slice_cmp nat_cmp k l ≡ o → Ascends (names_in (member l e ms)) → Ascends (names_in (put k d ms))
    → Ascends (names_in (match_ordering o (member k d (member l e ms)) (member l d ms) (member l e (put k d ms))))
unfolding IsStrictlySortedBy
ascends_put_at Less k l d e ms is h later = ((is, above_weaker k l (names_in ms) is h.0), h)
ascends_put_at Equal k l d e ms is h later = h
ascends_put_at Greater k l d e ms is h later = (all_put (λ n. slice_cmp nat_cmp l n ≡ Less) k d ms (nat_list_cmp_total.antisymm l k ∙ ap ordering_reverse is) h.0, later)

ascends_put : (k : List ℕ) (d : Data) (ms : Members) → Ascends (names_in ms) → Ascends (names_in (put k d ms))
unfolding IsStrictlySortedBy
ascends_put k d no_members h = (tt, tt)
ascends_put k d (member l e ms) h = ascends_put_at (slice_cmp nat_cmp k l) k l d e ms refl h (ascends_put k d ms h.1)

-- names that ascend still do once other members were put over them
pub ascends_overlaid : (later earlier : Members) → Ascends (names_in earlier) → Ascends (names_in (overlaid later earlier))
ascends_overlaid no_members earlier h = h
ascends_overlaid (member k d later) earlier h = ascends_overlaid later (put k d earlier) (ascends_put k d earlier h)
