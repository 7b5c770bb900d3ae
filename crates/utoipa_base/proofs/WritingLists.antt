-- A list written or copied item by item: what a loop over the items has done so far, and what it comes to.
use Rattle.std.proofs.Common.{◌≡◌, ℕ, ◌+◌, ◌<◌, ◌≤◌, List, [], ◌∷◌, ◌++◌, length, get_or, take, map, sym, ap, ◌∙◌, Vec, Global}
use Rattle.std.proofs.lemmas.List.{map-append, take_all, take_more}
use Rattle.utoipa_base.specs.Docs.{Doc, list_doc, docs_of}
use Rattle.utoipa_base.specs.Views.{list_of_docs}

pub copied_item : {T : Type 0} (f : T → Doc) (xs : List T) (i : ℕ) (ys zs : List T) (x v : T) → map f ys ≡ map f (take i xs) → i < length xs → x ≡ get_or xs i x → f v ≡ f x → zs ≡ ys ++ v ∷ []
    → map f zs ≡ map f (take (i + 1) xs)
copied_item f xs i ys zs x v so_far within is same more =
    let next : take (i + 1) xs ≡ take i xs ++ x ∷ [] = take_more xs i x within ∙ ap (λ y. take i xs ++ y ∷ []) (sym is) in
    ap (map f) more ∙ map-append f ys (v ∷ []) ∙ ap (λ ds. ds ++ f v ∷ []) so_far ∙ ap (λ d. map f (take i xs) ++ d ∷ []) same
    ∙ sym (map-append f (take i xs) (x ∷ [])) ∙ ap (map f) (sym next)

pub copied_list : {T : Type 0} (f : T → Doc) (xs : List T) (i : ℕ) (copy list : Vec T Global) → map f copy.items ≡ map f (take i xs) → length xs ≤ i → xs ≡ list.items → list_of_docs f copy ≡ list_of_docs f list
copied_list f xs i copy list so_far done whole = ap (λ ds. list_doc (docs_of ds)) (so_far ∙ ap (map f) (take_all i xs done ∙ whole))
