-- Lists that may be absent, and lists to which places are added.
use Rattle.std.proofs.Common.{◌≡◌, ◌++◌, ◌∷◌, List, [], Option, Some, None, Vec, Global, map, sym, ap, ◌∙◌}
use Rattle.std.proofs.lemmas.List.{append_assoc, map-append}
use Rattle.std.specs.Option.{unwrap_or}
use Rattle.utoipa_path.specs.Lists.{items_if_any}

-- a list, or else one without items
pub items_or_none : {X : Type 0} (o : Option (Vec X Global)) (none list : Vec X Global) → none.items ≡ [] → list ≡ unwrap_or o none → list.items ≡ items_if_any o
items_or_none None none list empty is = ap (λ v. v.items) is ∙ empty
items_or_none (Some v) none list empty is = ap (λ w. w.items) is

-- one more value is added behind what was there and those that were added
pub added_last : {X Y : Type 0} (f : X → Y) (before now next : List Y) (done : List X) (x : X) → now ≡ before ++ map f done → next ≡ now ++ f x ∷ [] → next ≡ before ++ map f (done ++ x ∷ [])
added_last f before now next done x so_far is =
    is ∙ ap (λ l. l ++ f x ∷ []) so_far ∙ append_assoc before (map f done) (f x ∷ []) ∙ ap (λ l. before ++ l) (sym (map-append f done (x ∷ [])))
