-- Where no object has a name twice, no name stands again.
use Rattle.std.proofs.Common.{◌≡◌, ◌≢◌, ◌∙◌, refl, sym, ap, ℕ, suc, List, [], ◌∷◌, ◌++◌, map, Bool, true, false, ◌||◌, if◌then◌else◌, length, get_or, arith, ◌<◌, Option, Some}
use Rattle.std.specs.List.{list_any}
use Rattle.std.specs.Str.{bytes_eq}
use Rattle.std.proofs.lemmas.Slice.Eq.{bytes_eq-Decides}
use Rattle.json.specs.Json.{Json, null, boolean, number, string, array, object, Items, no_items, item, Members, no_members, member}
use Rattle.json.specs.Strict.{keys, AreDistinct, HasUniqueKeys, ItemsHaveUniqueKeys, MembersHaveUniqueKeys}
use Rattle.utoipa_check.specs.Misfits.{at_name, at_index}
use Rattle.utoipa_duplicates.specs.Duplicates.{behind, again, duplicates, items_duplicates, members_duplicates, places_in}

-- none of the names is one of the earlier
AreNew : (earlier names : List (List ℕ)) → Type 0
AreNew earlier names = (k : ℕ) (d : List ℕ) → k < length names → list_any (bytes_eq (get_or names k d)) earlier ≡ false

other_name : (b : Bool) → (b ≡ true → ⊥) → b ≡ false
other_name true h = absurd (h refl)
other_name false h = refl

still_new : (name : List ℕ) (earlier names : List (List ℕ)) → AreDistinct (name ∷ names) → AreNew earlier (name ∷ names) → AreNew (name ∷ earlier) names
unfolding AreNew
still_new name earlier names apart new k d within =
    let other = get_or names k d in
    let differs : bytes_eq other name ≡ false = other_name (bytes_eq other name) (λ h. apart 0 (suc k) d (omega arith) (omega (arith, within)) (sym ((bytes_eq-Decides other name).0 h))) in
    ap (λ b. b || list_any (bytes_eq other) earlier) differs ∙ new (suc k) d (omega (arith, within))

still_apart : (name : List ℕ) (names : List (List ℕ)) → AreDistinct (name ∷ names) → AreDistinct names
still_apart name names apart i j d less within = apart (suc i) (suc j) d (omega (arith, less)) (omega (arith, within))

nothing_yet : (names : List (List ℕ)) → AreNew [] names
unfolding AreNew
nothing_yet names k d within = refl

mutual
  unfolding duplicates items_duplicates members_duplicates AreNew

  pub none_again : (j : Json) → HasUniqueKeys j → duplicates j ≡ []
  none_again null h = refl
  none_again (boolean b) h = refl
  none_again (number s) h = refl
  none_again (string s) h = refl
  none_again (array js) h = none_in_items 0 js h
  none_again (object ms) h = none_in_members [] ms (nothing_yet (keys ms)) h.0 h.1

  none_in_items : (i : ℕ) (js : Items) → ItemsHaveUniqueKeys js → items_duplicates i js ≡ []
  none_in_items i no_items h = refl
  none_in_items i (item j js) h = ap (λ ps. behind (at_index i) ps ++ items_duplicates (suc i) js) (none_again j h.0) ∙ none_in_items (suc i) js h.1

  none_in_members : (earlier : List (List ℕ)) (ms : Members) → AreNew earlier (keys ms) → AreDistinct (keys ms) → MembersHaveUniqueKeys ms → members_duplicates earlier ms ≡ []
  none_in_members earlier no_members new apart h = refl
  none_in_members earlier (member name j ms) new apart h =
      ap (λ b. (if b then (at_name name ∷ []) ∷ [] else []) ++ (behind (at_name name) (duplicates j) ++ members_duplicates (name ∷ earlier) ms)) (new 0 name (omega arith))
      ∙ ap (λ ps. behind (at_name name) ps ++ members_duplicates (name ∷ earlier) ms) (none_again j h.0)
      ∙ none_in_members (name ∷ earlier) ms (still_new name earlier (keys ms) apart new) (still_apart name (keys ms) apart) h.1

pub none_in_value : (o : Option Json) (j : Json) → o ≡ Some j → HasUniqueKeys j → places_in o ≡ []
none_in_value o j is unique = ap places_in is ∙ none_again j unique
