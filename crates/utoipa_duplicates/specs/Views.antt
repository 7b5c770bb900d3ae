-- What the values of the program stand for.
use Rattle.std.specs.Prelude.{◌≡◌, ℕ, List, [], map}
use Rattle.std.specs.Borrow.{Bor}
use Rattle.std.specs.BTreeSet.{BTreeSet, contains_by}
use Rattle.std.specs.Cmp.Lexicographic.{slice_cmp}
use Rattle.std.specs.List.{list_any}
use Rattle.std.specs.Ordering.{nat_cmp}
use Rattle.std.specs.Str.{bytes_eq}
use Rattle.utoipa_check.specs.Views.{outwards}
use Rattle.utoipa_check.specs.declared.misfit.Pointer.{Pointer}
use Rattle.utoipa_duplicates.specs.Duplicates.{Place}

abbrev pub place_of : Pointer → Place
place_of p = outwards p.steps.items []

abbrev pub places_of : List Pointer → List Place
places_of ps = map place_of ps

-- a set holds these names
abbrev pub AreNames : BTreeSet (Bor (List ℕ)) → List (List ℕ) → Type 0
AreNames s names = (q : Bor (List ℕ)) → contains_by (λ k. slice_cmp nat_cmp q.now k.now) s ≡ list_any (bytes_eq q.now) names
