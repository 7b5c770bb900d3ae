-- The items of a list that holds no fraction.
use Rattle.std.proofs.Common.{◌≡◌, List, [], ◌∷◌, Bool, true, false, ◌||◌, Option, None, Some, map, Global, refl, ap, subst}
use Rattle.std.specs.Prelude.{Vec}
use Rattle.std.proofs.lemmas.List.Elements.{All-nil, All-cons}
use Rattle.utoipa_base.specs.Docs.{Doc, docs_of}
use Rattle.utoipa_base.specs.Views.{list_of_docs, option_of}
use Rattle.utoipa_base.specs.WellFormed.{has_fraction, docs_have_fraction, IsPlain}
use Rattle.utoipa_merging_parts.specs.Lists.{ArePlain}

or_first : (a b : Bool) → (a || b) ≡ false → a ≡ false
or_first false b h = refl
or_first true b h = cc

or_second : (a b : Bool) → (a || b) ≡ false → b ≡ false
or_second false b h = h
or_second true b h = cc

items_plain : {X : Type 0} (f : X → Doc) (xs : List X) → docs_have_fraction (docs_of (map f xs)) ≡ false → ArePlain f xs
unfolding docs_have_fraction
items_plain f [] h = All-nil (λ x. IsPlain (f x))
items_plain f (x ∷ xs) h = All-cons (λ y. IsPlain (f y)) x xs (or_first _ _ h) (items_plain f xs (or_second _ _ h))

-- the items of a list that is there
pub list_plain : {X : Type 0} (f : X → Doc) (l : Option (Vec X Global)) (v : Vec X Global) → IsPlain (option_of (list_of_docs f) l) → l ≡ Some v → ArePlain f v.items
unfolding has_fraction
list_plain f None v h is = cc
list_plain {X} f (Some w) v h is = subst (λ u. ArePlain f u) (ap items_of is) (items_plain f w.items h)
  where
    items_of : Option (Vec X Global) → List X
    items_of None = []
    items_of (Some u) = u.items
