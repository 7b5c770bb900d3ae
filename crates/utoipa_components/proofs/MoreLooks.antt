-- Why no more places need be looked at than the first and as many as the map has entries. As long as one look more finds the values of
-- more entries, there are at least as many such entries as there were looks. So after as many looks as there are entries, one more finds
-- nothing new, and neither do any further.
use Rattle.std.proofs.Common.{◌≡◌, ◌⊎◌, inl, inr, ◌+◌, ◌<◌, ◌≤◌, ℕ, zero, suc, Bool, true, false, cond, List, [], ◌∷◌, length, Option, None, Some, option_and_then, refl, ap, sym, ◌∙◌, subst, arith, add_comm, zero-add, suc-add}
use Rattle.std.specs.BTreeMap.{get_by_text}
use Rattle.std.specs.Map.{lookup}
use Rattle.utoipa_components.specs.Components.{PlacesByName}
use Rattle.utoipa_components.specs.Resolve.{name_in, referred, found, resolved}
use Rattle.utoipa_base.specs.declared.refs.RefOr.{RefOr}
use Rattle.utoipa_base.specs.declared.refs.RefOr.TheVariants as places
use Rattle.utoipa_base.specs.declared.refs.component.ComponentMap.{ComponentMap}

-- ---- two functions on the entries of a map, of which the second finds what the first does

-- how many values there are
abbrev one_if_any : {V : Type 0} → Option V → ℕ
one_if_any None = 0
one_if_any (Some v) = 1

at_most_one : {V : Type 0} (o : Option V) → one_if_any o ≤ 1
at_most_one None = omega arith
at_most_one (Some v) = omega arith

of_test : {P V : Type 0} (f g : P → Option V) (b : Bool) (q : P) (rest : Option P) → f q ≡ g q → option_and_then f rest ≡ option_and_then g rest
    → option_and_then f (cond b (Some q) rest) ≡ option_and_then g (cond b (Some q) rest)
of_test f g true q rest here there = here
of_test f g false q rest here there = there

module _ {K P V : Type 0} where
  -- of how many entries a value is found
  abbrev many : (P → Option V) → List (K × P) → ℕ
  many f [] = 0
  many f (e ∷ es) = one_if_any (f e.1) + many f es

  -- of each entry the same is found
  abbrev AreSame : (P → Option V) → (P → Option V) → List (K × P) → Type 0
  AreSame f g [] = Unit {0}
  AreSame f g (e ∷ es) = (f e.1 ≡ g e.1) × AreSame f g es

  -- the same is found of each entry, or else values of more entries by the second function
  abbrev SameOrMore : (P → Option V) → (P → Option V) → List (K × P) → Type 0
  SameOrMore f g es = (AreSame f g es × (many f es ≡ many g es)) ⊎ (many f es < many g es)

  at_most_all : (f : P → Option V) (es : List (K × P)) → many f es ≤ length es
  at_most_all f [] = omega arith
  at_most_all f (e ∷ es) = omega (arith, at_most_one (f e.1), at_most_all f es)

  with_one : (f g : P → Option V) (es : List (K × P)) (o p : Option V) → ((v : V) → o ≡ Some v → p ≡ Some v) → SameOrMore f g es
      → (((o ≡ p) × AreSame f g es) × (one_if_any o + many f es ≡ one_if_any p + many g es)) ⊎ (one_if_any o + many f es < one_if_any p + many g es)
  with_one f g es None None keeps (inl (same, e)) = inl ((refl, same), ap (λ n. 0 + n) e)
  with_one f g es None None keeps (inr more) = inr (omega arith)
  with_one f g es None (Some w) keeps (inl (same, e)) = inr (omega arith)
  with_one f g es None (Some w) keeps (inr more) = inr (omega arith)
  with_one f g es (Some v) None keeps rest = let kept = keeps v refl in cc
  with_one f g es (Some v) (Some w) keeps (inl (same, e)) = inl ((sym (keeps v refl), same), ap (λ n. 1 + n) e)
  with_one f g es (Some v) (Some w) keeps (inr more) = inr (omega arith)

  compared : (f g : P → Option V) → ((q : P) (v : V) → f q ≡ Some v → g q ≡ Some v) → (es : List (K × P)) → SameOrMore f g es
  compared f g keeps [] = inl (tt, refl)
  compared f g keeps (e ∷ es) = with_one f g es (f e.1) (g e.1) (keeps e.1) (compared f g keeps es)

  -- what is found of the entry of a name
  same_at : (f g : P → Option V) (test : K → Bool) (es : List (K × P)) → AreSame f g es → option_and_then f (lookup test es) ≡ option_and_then g (lookup test es)
  same_at f g test [] same = refl
  same_at f g test (e ∷ es) same = of_test f g (test e.0) e.1 (lookup test es) same.0 (same_at f g test es same.1)

  -- the same of each place is the same of each entry
  same_each : (f g : P → Option V) → ((q : P) → f q ≡ g q) → (es : List (K × P)) → AreSame f g es
  same_each f g same [] = tt
  same_each f g same (e ∷ es) = (same e.1, same_each f g same es)

-- ---- one look more

module _ {X : Type 0} (map : ComponentMap) (entries : PlacesByName X) where
  -- a look more keeps what was found
  kept_from : (f g : RefOr X → Option X) → ((q : RefOr X) (v : X) → f q ≡ Some v → g q ≡ Some v) → (o : Option (RefOr X)) (v : X) → option_and_then f o ≡ Some v → option_and_then g o ≡ Some v
  kept_from f g keeps None v e = cc
  kept_from f g keeps (Some q) v e = keeps q v e

  keeps : (looks : ℕ) (place : RefOr X) (v : X) → found looks map entries place ≡ Some v → found (suc looks) map entries place ≡ Some v
  keeps zero place v e = cc
  keeps (suc looks) (places.T value) v e = e
  keeps (suc looks) (places.Ref reference) v e = kept_from (found looks map entries) (found (suc looks) map entries) (keeps looks) (referred map entries reference) v e

  -- one look more finds the same everywhere
  abbrev IsEnough : ℕ → Type 0
  IsEnough looks = (place : RefOr X) → found (suc looks) map entries place ≡ found looks map entries place

  -- one look more finds the same of each entry
  abbrev IsEnoughOfEntries : ℕ → Type 0
  IsEnoughOfEntries looks = AreSame (found looks map entries) (found (suc looks) map entries) entries.entries

  of_name : (f g : RefOr X → Option X) → AreSame f g entries.entries → (name : Option (List ℕ))
      → option_and_then g (option_and_then (get_by_text entries) name) ≡ option_and_then f (option_and_then (get_by_text entries) name)
  of_name f g same None = refl
  of_name f g same (Some name) = sym (same_at f g _ entries.entries same)

  of_any : (f g : RefOr X → Option X) → ((q : RefOr X) → g q ≡ f q) → (o : Option (RefOr X)) → option_and_then g o ≡ option_and_then f o
  of_any f g same None = refl
  of_any f g same (Some q) = same q

  enough_then : (looks : ℕ) → IsEnoughOfEntries looks → IsEnough (suc looks)
  enough_then looks same (places.T value) = refl
  enough_then looks same (places.Ref reference) = of_name (found looks map entries) (found (suc looks) map entries) same (name_in map reference)

  still_enough : (looks : ℕ) → IsEnough looks → IsEnough (suc looks)
  still_enough looks same (places.T value) = refl
  still_enough looks same (places.Ref reference) = of_any (found looks map entries) (found (suc looks) map entries) same (referred map entries reference)

  of_entries : (looks : ℕ) → IsEnough looks → IsEnoughOfEntries looks
  of_entries looks same = same_each (found looks map entries) (found (suc looks) map entries) (λ q. sym (same q)) entries.entries

  -- one look more finds values of more entries, or no look more does
  next_look : (looks : ℕ) → SameOrMore (found looks map entries) (found (suc looks) map entries) entries.entries
  next_look looks = compared (found looks map entries) (found (suc looks) map entries) (keeps looks) entries.entries

  counted : (looks : ℕ) → looks ≤ many (found looks map entries) entries.entries → SameOrMore (found looks map entries) (found (suc looks) map entries) entries.entries
      → IsEnoughOfEntries looks ⊎ (suc looks ≤ many (found (suc looks) map entries) entries.entries)
  counted looks least (inl (same, e)) = inl same
  counted looks least (inr more) = inr (omega arith)

  then_counted : (looks : ℕ) → IsEnoughOfEntries looks ⊎ (looks ≤ many (found looks map entries) entries.entries) → IsEnoughOfEntries looks ⊎ (suc looks ≤ many (found (suc looks) map entries) entries.entries)
  then_counted looks (inl same) = inl same
  then_counted looks (inr least) = counted looks least (next_look looks)

  next_counted : (looks : ℕ) → IsEnoughOfEntries looks ⊎ (suc looks ≤ many (found (suc looks) map entries) entries.entries) → IsEnoughOfEntries (suc looks) ⊎ (suc looks ≤ many (found (suc looks) map entries) entries.entries)
  next_counted looks (inl same) = inl (of_entries (suc looks) (enough_then looks same))
  next_counted looks (inr least) = inr least

  -- one look more finds nothing new, or else there are values of as many entries as there were looks
  enough_or_many : (looks : ℕ) → IsEnoughOfEntries looks ⊎ (looks ≤ many (found looks map entries) entries.entries)
  enough_or_many zero = inr (omega arith)
  enough_or_many (suc looks) = next_counted looks (then_counted looks (enough_or_many looks))

  not_more : IsEnoughOfEntries (length entries.entries) ⊎ (suc (length entries.entries) ≤ many (found (suc (length entries.entries)) map entries) entries.entries) → IsEnoughOfEntries (length entries.entries)
  not_more (inl same) = same
  not_more (inr more) = absurd (omega (arith, at_most_all (found (suc (length entries.entries)) map entries) entries.entries))

  enough : IsEnough (suc (length entries.entries))
  enough = enough_then (length entries.entries) (not_more (then_counted (length entries.entries) (enough_or_many (length entries.entries))))

  -- ---- any number of looks more

  enough_after : (more looks : ℕ) → IsEnough looks → IsEnough (more + looks)
  enough_after zero looks same = subst IsEnough (sym (zero-add looks)) same
  enough_after (suc more) looks same = subst IsEnough (sym (suc-add more looks)) (still_enough (more + looks) (enough_after more looks same))

  same_after : (more looks : ℕ) (place : RefOr X) → IsEnough looks → found (more + looks) map entries place ≡ found looks map entries place
  same_after zero looks place same = ap (λ n. found n map entries place) (zero-add looks)
  same_after (suc more) looks place same = ap (λ n. found n map entries place) (suc-add more looks) ∙ enough_after more looks same place ∙ same_after more looks place same

  kept_after : (more looks : ℕ) (place : RefOr X) (v : X) → found looks map entries place ≡ Some v → found (more + looks) map entries place ≡ Some v
  kept_after zero looks place v e = ap (λ n. found n map entries place) (zero-add looks) ∙ e
  kept_after (suc more) looks place v e = ap (λ n. found n map entries place) (suc-add more looks) ∙ keeps (more + looks) place v (kept_after more looks place v e)

  -- what any number of looks finds is the value in the place
  pub found_is_resolved : (looks : ℕ) (place : RefOr X) (v : X) → found looks map entries place ≡ Some v → resolved map entries place ≡ Some v
  found_is_resolved looks place v e =
      let most = suc (length entries.entries) in
      sym (same_after looks most place enough) ∙ ap (λ n. found n map entries place) (add_comm looks most) ∙ kept_after most looks place v e
