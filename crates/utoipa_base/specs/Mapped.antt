-- The documents of lists and maps whose values were mapped first, which types that hold each other need.
use Rattle.std.proofs.Common.{◌≡◌, refl, List, [], ◌∷◌, map, String, Global, ℕ, string_bytes}
use Rattle.utoipa_base.specs.Docs.{Doc}
use Rattle.utoipa_base.specs.Views.{pairs_of}

pub list_through : {X Y : Type 0} (f : Y → Doc) (h : X → Y) (g : X → Doc) → ((x : X) → f (h x) ≡ g x) → (xs : List X) → map f (map h xs) ≡ map g xs
list_through f h g same [] = refl
list_through f h g same (x ∷ xs) = rw (same x, list_through f h g same xs)

abbrev pub entry_doc : {X : Type 0} → (X → Doc) → String Global × X → List ℕ × Doc
entry_doc f e = (string_bytes e.0, f e.1)

pub entries_through : {X Y : Type 0} (f : Y → Doc) (h : String Global × X → String Global × Y) (g : X → Doc) → ((k : String Global) (x : X) → entry_doc f (h (k, x)) ≡ entry_doc g (k, x)) → (es : List (String Global × X)) → pairs_of f (map h es) ≡ pairs_of g es
entries_through f h g same [] = refl
entries_through f h g same (e ∷ es) = rw (same e.0 e.1, entries_through f h g same es)
