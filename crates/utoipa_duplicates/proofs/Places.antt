-- Places that were put behind a step, and the names of members that were passed.
use Rattle.std.proofs.Common.{◌≡◌, ◌∙◌, refl, sym, ap, append_assoc, append-nil, arith, rules, ℕ, suc, ◌+◌, List, [], ◌∷◌, ◌++◌, map, drop, Bool, true, false, not, ◌||◌, cond, if◌then◌else◌, nat_cmp}
use Rattle.std.specs.Ordering.{is_eq}
use Rattle.std.specs.Cmp.Lexicographic.{slice_cmp}
use Rattle.std.specs.List.{list_any}
use Rattle.std.specs.Str.{bytes_eq}
use Rattle.std.proofs.lemmas.Map.Text.{is_eq-slice_cmp}
use Rattle.std.proofs.lemmas.Slice.Eq.{bytes_eq-Decides}
use Rattle.std.proofs.lemmas.List.{map-append}
use Rattle.std.specs.Borrow.{Bor}
use Rattle.json.specs.Value.{value_view, items_view, members_view}
use Rattle.json.specs.declared.value.Value.{Value, the_lemmas}
use Rattle.json.specs.declared.value.Value as made
use Rattle.json.specs.Json as json
use Rattle.utoipa_check.specs.Views.{step_of, outwards}
use Rattle.utoipa_check.specs.declared.misfit.Pointer.{Pointer}
use Rattle.utoipa_check.specs.declared.misfit.Step.{Step}
use Rattle.utoipa_check.specs.Misfits as places
use Rattle.utoipa_duplicates.specs.Duplicates.{Place, behind, again, duplicates, items_duplicates, members_duplicates}
use Rattle.utoipa_duplicates.specs.Views.{place_of, places_of}

outwards_last : (xs : List Step) (s : Step) (rest : List places.Step) → outwards (xs ++ s ∷ []) rest ≡ step_of s ∷ outwards xs rest
outwards_last [] s rest = refl
outwards_last (x ∷ xs) s rest = outwards_last xs s (step_of x ∷ rest)

-- one more place, with a step more
pub put_one : (xs ys start yielded : List Pointer) (m n : Pointer) (s : Step) → places_of xs ≡ places_of start ++ behind (step_of s) (places_of yielded) → n.steps.items ≡ m.steps.items ++ s ∷ [] → ys ≡ xs ++ n ∷ []
    → places_of ys ≡ places_of start ++ behind (step_of s) (places_of (yielded ++ m ∷ []))
put_one xs ys start yielded m n s before stepped pushed =
    let moved : place_of n ≡ step_of s ∷ place_of m = ap (λ r. outwards r []) stepped ∙ outwards_last m.steps.items s [] in
    ap places_of pushed ∙ map-append place_of xs (n ∷ []) ∙ ap (λ r. r ++ place_of n ∷ []) before ∙ append_assoc (places_of start) (behind (step_of s) (places_of yielded)) (place_of n ∷ [])
    ∙ ap (λ r. places_of start ++ (behind (step_of s) (places_of yielded) ++ r ∷ [])) moved
    ∙ ap (λ r. places_of start ++ r) (sym (ap (behind (step_of s)) (map-append place_of yielded (m ∷ [])) ∙ map-append (λ p. step_of s ∷ p) (places_of yielded) (places_of (m ∷ []))))

-- one more place, of a member
pub put_here : (xs ys : List Pointer) (p : Pointer) (s : Step) → ys ≡ xs ++ p ∷ [] → p.steps.items ≡ s ∷ [] → places_of ys ≡ places_of xs ++ (step_of s ∷ []) ∷ []
put_here xs ys p s pushed only = ap places_of pushed ∙ map-append place_of xs (p ∷ []) ∙ ap (λ r. places_of xs ++ outwards r [] ∷ []) only

-- ---- turns of the loops

module _ {A : Type 0} where
  -- one more item
  pub item_step : (xs : List (Value A)) (i : ℕ) (v : Value A) (found new inner : List Pointer) (all : List Place) → drop i xs ≡ v ∷ drop (i + 1) xs → places_of found ++ items_duplicates i (items_view (drop i xs)) ≡ all
      → places_of inner ≡ duplicates (value_view v) → places_of new ≡ places_of found ++ behind (places.at_index i) (places_of inner) → places_of new ++ items_duplicates (i + 1) (items_view (drop (i + 1) xs)) ≡ all
  unfolding items_duplicates
  item_step xs i v found new inner all here so_far inside put =
      let rest = items_duplicates (i + 1) (items_view (drop (i + 1) xs)) in
      let next : suc i ≡ i + 1 = omega arith in
      ap (λ r. r ++ rest) put ∙ append_assoc (places_of found) (behind (places.at_index i) (places_of inner)) rest
      ∙ ap (λ r. places_of found ++ (behind (places.at_index i) r ++ rest)) inside
      ∙ ap (λ n. places_of found ++ (behind (places.at_index i) (duplicates (value_view v)) ++ items_duplicates n (items_view (drop (i + 1) xs)))) (sym next)
      ∙ ap (λ ys. places_of found ++ items_duplicates i (items_view ys)) (sym here) ∙ so_far

  -- no item is left
  pub items_end : (xs : List (Value A)) (i : ℕ) (found : List Pointer) (all : List Place) → drop i xs ≡ [] → places_of found ++ items_duplicates i (items_view (drop i xs)) ≡ all → places_of found ≡ all
  unfolding items_duplicates
  items_end xs i found all none so_far = sym (append-nil (places_of found)) ∙ ap (λ ys. places_of found ++ items_duplicates i (items_view ys)) (sym none) ∙ so_far

  -- one more member
  pub member_step : (xs : List (Bor (List ℕ) × Value A)) (i : ℕ) (m : Bor (List ℕ) × Value A) (names : List (List ℕ)) (found noted new inner : List Pointer) (all : List Place) → drop i xs ≡ m ∷ drop (i + 1) xs
      → places_of found ++ members_duplicates names (members_view (drop i xs)) ≡ all → places_of noted ≡ places_of found ++ again m.0.now names → places_of inner ≡ duplicates (value_view m.1)
      → places_of new ≡ places_of noted ++ behind (places.at_name m.0.now) (places_of inner) → places_of new ++ members_duplicates (m.0.now ∷ names) (members_view (drop (i + 1) xs)) ≡ all
  unfolding members_duplicates
  member_step xs i m names found noted new inner all here so_far told inside put =
      let rest = members_duplicates (m.0.now ∷ names) (members_view (drop (i + 1) xs)) in
      let at = behind (places.at_name m.0.now) in
      ap (λ r. r ++ rest) put ∙ append_assoc (places_of noted) (at (places_of inner)) rest ∙ ap (λ r. r ++ (at (places_of inner) ++ rest)) told
      ∙ append_assoc (places_of found) (again m.0.now names) (at (places_of inner) ++ rest) ∙ ap (λ r. places_of found ++ (again m.0.now names ++ (at r ++ rest))) inside
      ∙ ap (λ ys. places_of found ++ members_duplicates names (members_view ys)) (sym here) ∙ so_far

  -- no member is left
  pub members_end : (xs : List (Bor (List ℕ) × Value A)) (i : ℕ) (names : List (List ℕ)) (found : List Pointer) (all : List Place) → drop i xs ≡ [] → places_of found ++ members_duplicates names (members_view (drop i xs)) ≡ all → places_of found ≡ all
  unfolding members_duplicates
  members_end xs i names found all none so_far = sym (append-nil (places_of found)) ∙ ap (λ ys. places_of found ++ members_duplicates names (members_view ys)) (sym none) ∙ so_far

-- ---- names that were passed

same_bools : (a b : Bool) → (a ≡ true → b ≡ true) → (b ≡ true → a ≡ true) → a ≡ b
same_bools true b f g = sym (f refl)
same_bools false true f g = g refl
same_bools false false f g = refl

either_way : (a b : List ℕ) → bytes_eq a b ≡ bytes_eq b a
either_way a b = same_bools (bytes_eq a b) (bytes_eq b a) (λ h. (bytes_eq-Decides b a).1 (sym ((bytes_eq-Decides a b).0 h))) (λ h. (bytes_eq-Decides a b).1 (sym ((bytes_eq-Decides b a).0 h)))

or_was : (b was : Bool) → cond b true was ≡ (b || was)
or_was true was = refl
or_was false was = refl

-- whether a name is among those that were passed, after one more
pub one_more_name : (name q : List ℕ) (names : List (List ℕ)) (was : Bool) → was ≡ list_any (bytes_eq q) names → cond (is_eq (slice_cmp nat_cmp name q)) true was ≡ list_any (bytes_eq q) (name ∷ names)
one_more_name name q names was is = or_was (is_eq (slice_cmp nat_cmp name q)) was ∙ ap (λ b. b || was) (is_eq-slice_cmp name q ∙ either_way name q) ∙ ap (λ b. bytes_eq q name || b) is

not_yes : (b : Bool) → not b ≡ true → b ≡ false
not_yes true h = sym h
not_yes false h = refl

not_no : (b : Bool) → not b ≡ false → b ≡ true
not_no true h = refl
not_no false h = sym h

-- a name that was new stands nowhere before
pub not_again : (name : List ℕ) (names : List (List ℕ)) (is_new has : Bool) → is_new ≡ not has → has ≡ list_any (bytes_eq name) names → is_new ≡ true → again name names ≡ []
not_again name names is_new has added is new = ap (λ b. if b then (places.at_name name ∷ []) ∷ [] else []) (sym is ∙ not_yes has (sym added ∙ new))

-- one that was not stands again
pub stands_again : (name : List ℕ) (names : List (List ℕ)) (is_new has : Bool) → is_new ≡ not has → has ≡ list_any (bytes_eq name) names → is_new ≡ false → again name names ≡ (places.at_name name ∷ []) ∷ []
stands_again name names is_new has added is old = ap (λ b. if b then (places.at_name name ∷ []) ∷ [] else []) (sym is ∙ not_no has (sym added ∙ old))

-- ---- values that hold no others

pub view-Null : (A : Type 0) → value_view {A = A} made.Null ≡ json.null
view-Null A = search (rules, the_lemmas)

pub view-Bool : (A : Type 0) (b : Bool) → value_view {A = A} (made.Bool b) ≡ json.boolean b
view-Bool A b = search (rules, the_lemmas)

pub view-Number : (A : Type 0) (s : Bor (List ℕ)) → value_view {A = A} (made.Number s) ≡ json.number s.now
view-Number A s = search (rules, the_lemmas)

pub view-String : (A : Type 0) (s : Bor (List ℕ)) → value_view {A = A} (made.String s) ≡ json.string s.now
view-String A s = search (rules, the_lemmas)

-- a value that is seen as another in which no name stands again
pub leaf : {A : Type 0} {v w : Value A} {j : json.Json} → v ≡ w → value_view w ≡ j → duplicates j ≡ duplicates (value_view v)
leaf same seen = sym (ap duplicates (ap value_view same ∙ seen))
