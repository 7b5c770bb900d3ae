-- Entries in the order of their names: putting them one after the other gives that order, and leaves entries that have it.
use Rattle.std.proofs.Common.{◌≡◌, ℕ, List, Option, Some, None, option_map, refl, sym, ap, ◌∙◌, nat_cmp, Ordering, Less, Equal, Greater}
use Rattle.std.proofs.lemmas.Cmp.{nat_list_cmp_total}
use Rattle.std.specs.Cmp.Lexicographic.{slice_cmp}
use Rattle.std.specs.Ordering.{match_ordering, ordering_reverse}
use Rattle.serde_json.specs.Data.{Data, Members, no_members, member, put}
use Rattle.utoipa_base.specs.ByName.{put_entry, put_entries, by_name}
use Rattle.utoipa_base.specs.Docs.{Doc, Entries, no_entries, entry}
use Rattle.utoipa_base.specs.Kinds.{Kind}
use Rattle.utoipa_base.specs.NormalForm.{normal_form, normal_entries}
use Rattle.utoipa_base.specs.Reading.{read, parts, read_entries, both_entries}

-- ---- names that ascend

-- the name comes before those of the entries
abbrev pub IsBelow : List ℕ → Entries → Type 0
IsBelow k no_entries = Unit {0}
IsBelow k (entry l d es) = (slice_cmp nat_cmp k l ≡ Less) × IsBelow k es

-- each name comes before the later ones
abbrev pub Ascends : Entries → Type 0
Ascends no_entries = Unit {0}
Ascends (entry k d es) = IsBelow k es × Ascends es

-- a name before one that comes before all
below_all : (k l : List ℕ) (es : Entries) → slice_cmp nat_cmp k l ≡ Less → IsBelow l es → IsBelow k es
below_all k l no_entries h b = tt
below_all k l (entry m d es) h b = (nat_list_cmp_total.trans k l m h b.0, below_all k l es h b.1)

-- what comes before, comes after when turned
after : (k l : List ℕ) → slice_cmp nat_cmp k l ≡ Less → slice_cmp nat_cmp l k ≡ Greater
after k l h = nat_list_cmp_total.antisymm l k ∙ ap ordering_reverse h

-- what comes after, comes before when turned
before : (k l : List ℕ) → slice_cmp nat_cmp k l ≡ Greater → slice_cmp nat_cmp l k ≡ Less
before k l h = nat_list_cmp_total.antisymm l k ∙ ap ordering_reverse h

-- a name before all, and before one more, by the place of that one
below_put_at : (o : Ordering) (j k l : List ℕ) (d e : Doc) (es : Entries) → slice_cmp nat_cmp j k ≡ Less → slice_cmp nat_cmp j l ≡ Less → IsBelow j es → IsBelow j (put_entry k d es)
    → IsBelow j (match_ordering o (entry k d (entry l e es)) (entry l d es) (entry l e (put_entry k d es)))
below_put_at Less j k l d e es h g b p = (h, (g, b))
below_put_at Equal j k l d e es h g b p = (g, b)
below_put_at Greater j k l d e es h g b p = (g, p)

-- a name before all, and before one more
below_put : (j k : List ℕ) (d : Doc) (es : Entries) → slice_cmp nat_cmp j k ≡ Less → IsBelow j es → IsBelow j (put_entry k d es)
below_put j k d no_entries h b = (h, tt)
below_put j k d (entry l e es) h b = below_put_at (slice_cmp nat_cmp k l) j k l d e es h b.0 b.1 (below_put j k d es h b.1)

-- names that ascend, with one more, by its place
ascends_put_at : (o : Ordering) (k l : List ℕ) (d e : Doc) (es : Entries) → slice_cmp nat_cmp k l ≡ o → Ascends (entry l e es) → Ascends (put_entry k d es)
    → Ascends (match_ordering o (entry k d (entry l e es)) (entry l d es) (entry l e (put_entry k d es)))
ascends_put_at Less k l d e es is a p = ((is, below_all k l es is a.0), a)
ascends_put_at Equal k l d e es is a p = a
ascends_put_at Greater k l d e es is a p = (below_put l k d es (before k l is) a.0, p)

-- names that ascend, with one more
ascends_put : (k : List ℕ) (d : Doc) (es : Entries) → Ascends es → Ascends (put_entry k d es)
ascends_put k d no_entries a = (tt, tt)
ascends_put k d (entry l e es) a = ascends_put_at (slice_cmp nat_cmp k l) k l d e es refl a (ascends_put k d es a.1)

-- names that ascend, with others
ascends_puts : (es fs : Entries) → Ascends fs → Ascends (put_entries es fs)
ascends_puts no_entries fs a = a
ascends_puts (entry k d es) fs a = ascends_puts es (put_entry k d fs) (ascends_put k d fs a)

-- ---- entries that ascend stay

-- the entries of both, one after the other
abbrev joined : Entries → Entries → Entries
joined no_entries fs = fs
joined (entry k d es) fs = entry k d (joined es fs)

joined_none : (es : Entries) → joined es no_entries ≡ es
joined_none no_entries = refl
joined_none (entry k d es) = ap (entry k d) (joined_none es)

joined_one : (es : Entries) (k : List ℕ) (d : Doc) (fs : Entries) → joined (joined es (entry k d no_entries)) fs ≡ joined es (entry k d fs)
joined_one no_entries k d fs = refl
joined_one (entry l e es) k d fs = ap (entry l e) (joined_one es k d fs)

-- a name that comes before all comes before one of them
below_one : (l : List ℕ) (es : Entries) (k : List ℕ) (d : Doc) (fs : Entries) → IsBelow l (joined es (entry k d fs)) → slice_cmp nat_cmp l k ≡ Less
below_one l no_entries k d fs b = b.0
below_one l (entry m e es) k d fs b = below_one l es k d fs b.1

-- an entry that is put among those before it comes last
put_last : (es : Entries) (k : List ℕ) (d : Doc) (fs : Entries) → Ascends (joined es (entry k d fs)) → put_entry k d es ≡ joined es (entry k d no_entries)
put_last no_entries k d fs a = refl
put_last (entry l e es) k d fs a =
    ap (λ o. match_ordering o (entry k d (entry l e es)) (entry l d es) (entry l e (put_entry k d es))) (after l k (below_one l es k d fs a.0))
    ∙ ap (entry l e) (put_last es k d fs a.1)

-- entries that ascend, put after those before them
puts_last : (es fs : Entries) → Ascends (joined fs es) → put_entries es fs ≡ joined fs es
puts_last no_entries fs a = sym (joined_none fs)
puts_last (entry k d es) fs a =
    ap (put_entries es) (put_last fs k d es a) ∙ puts_last es (joined fs (entry k d no_entries)) (rw (joined_one fs k d es) a) ∙ joined_one fs k d es

-- entries in the order of their names stay
pub by_name-stays : (es : Entries) → Ascends es → by_name es ≡ es
by_name-stays es a = puts_last es no_entries a

-- the order of the names twice is that order
pub by_name_twice : (es : Entries) → by_name (by_name es) ≡ by_name es
by_name_twice es = by_name-stays (by_name es) (ascends_puts es no_entries tt)

-- ---- normal forms

normal_put_at : (o : Ordering) (k l : List ℕ) (d e : Doc) (es : Entries) → normal_entries (put_entry k d es) ≡ put_entry k (normal_form d) (normal_entries es)
    → normal_entries (match_ordering o (entry k d (entry l e es)) (entry l d es) (entry l e (put_entry k d es)))
    ≡ match_ordering o (entry k (normal_form d) (entry l (normal_form e) (normal_entries es))) (entry l (normal_form d) (normal_entries es)) (entry l (normal_form e) (put_entry k (normal_form d) (normal_entries es)))
unfolding normal_entries
normal_put_at Less k l d e es h = refl
normal_put_at Equal k l d e es h = refl
normal_put_at Greater k l d e es h = ap (entry l (normal_form e)) h

normal_put : (k : List ℕ) (d : Doc) (es : Entries) → normal_entries (put_entry k d es) ≡ put_entry k (normal_form d) (normal_entries es)
unfolding normal_entries
normal_put k d no_entries = refl
normal_put k d (entry l e es) = normal_put_at (slice_cmp nat_cmp k l) k l d e es (normal_put k d es)

normal_puts : (es fs : Entries) → normal_entries (put_entries es fs) ≡ put_entries (normal_entries es) (normal_entries fs)
unfolding normal_entries
normal_puts no_entries fs = refl
normal_puts (entry k d es) fs = normal_puts es (put_entry k d fs) ∙ ap (put_entries (normal_entries es)) (normal_put k d fs)

-- the normal forms of entries in the order of their names are in that order
normal_by_name : (es : Entries) → normal_entries (by_name es) ≡ by_name (normal_entries es)
unfolding normal_entries
normal_by_name es = normal_puts es no_entries

-- entries in the order of their names have normal forms in that order
pub by_name-normal : (es : Entries) → by_name (normal_entries (by_name es)) ≡ by_name (normal_entries es)
by_name-normal es = ap by_name (normal_by_name es) ∙ by_name_twice (normal_entries es)

-- ---- reading

-- an entry and the others are entries
entry_and_others : (l : List ℕ) (a : Option Doc) (b : Option Entries) (e : Doc) (es : Entries) → a ≡ Some e → b ≡ Some es → both_entries l a b ≡ Some (entry l e es)
entry_and_others l a b e es first others = rw (first, others)

-- entries that were read are the first and the others
pub first_and_others : (l : List ℕ) (a : Option Doc) (b : Option Entries) (es : Entries) → both_entries l a b ≡ Some es → (e : Doc) × (fs : Entries) × (a ≡ Some e) × (b ≡ Some fs) × (es ≡ entry l e fs)
first_and_others l None b es h = cc
first_and_others l (Some e) None es h = cc
first_and_others l (Some e) (Some fs) es h = (e, fs, refl, refl, cc)

-- what members read as, with one more, by its place
read_put_at : (o : Ordering) (k : Kind) (n l : List ℕ) (t u : Data) (ms : Members) (d e : Doc) (es : Entries) → read k t ≡ Some d → read k u ≡ Some e → read_entries k (parts ms) ≡ Some es
    → read_entries k (parts (put n t ms)) ≡ Some (put_entry n d es)
    → read_entries k (parts (match_ordering o (member n t (member l u ms)) (member l t ms) (member l u (put n t ms)))) ≡ Some (match_ordering o (entry n d (entry l e es)) (entry l d es) (entry l e (put_entry n d es)))
unfolding parts
read_put_at Less k n l t u ms d e es new old others more = entry_and_others n _ _ d (entry l e es) new (entry_and_others l _ _ e es old others)
read_put_at Equal k n l t u ms d e es new old others more = entry_and_others l _ _ d es new others
read_put_at Greater k n l t u ms d e es new old others more = entry_and_others l _ _ e (put_entry n d es) old more

-- members with one more read as their entries with one more
pub read_put : (k : Kind) (n : List ℕ) (t : Data) (d : Doc) → read k t ≡ Some d → (ms : Members) (es : Entries) → read_entries k (parts ms) ≡ Some es → read_entries k (parts (put n t ms)) ≡ Some (put_entry n d es)
unfolding parts
read_put k n t d new no_members es h = entry_and_others n _ _ d no_entries new refl ∙ ap (λ r. option_map (put_entry n d) r) h
read_put k n t d new (member l u ms) es h =
    let first : (e : Doc) × (fs : Entries) × (read k u ≡ Some e) × (read_entries k (parts ms) ≡ Some fs) × (es ≡ entry l e fs) = first_and_others l (read k u) (read_entries k (parts ms)) es h in
    read_put_at (slice_cmp nat_cmp n l) k n l t u ms d first.0 first.1 new first.2 first.3 (read_put k n t d new ms first.1 first.3) ∙ ap (λ r. Some (put_entry n d r)) (sym first.4)
