use Rattle.std.proofs.Common.{◌≡◌, ◌∙◌, List, [], ◌∷◌, String, Global, Bool, true, false, cond, filter, map, ap, refl, ℕ, not, rules, string_bytes}
use Rattle.std.proofs.lemmas.Fn.{filter_same}
use Rattle.std.specs.Str.{bytes_eq}
use Rattle.utoipa.proofs.own_schemas.remove_name.Goals as goal

-- what is made of those that pass, where the test is one of what is made of them
map_filter : {X Y : Type 0} (f : X → Y) (p : Y → Bool) (xs : List X) → map f (filter (λ x. p (f x)) xs) ≡ filter p (map f xs)
map_filter f p [] = refl
map_filter f p (x ∷ xs) = elim (p (f x)) as (λ b. map f (cond b (x ∷ filter (λ y. p (f y)) xs) (filter (λ y. p (f y)) xs)) ≡ cond b (f x ∷ filter p (map f xs)) (filter p (map f xs))) [ true ↦ ap (λ ys. f x ∷ ys) (map_filter f p xs) | false ↦ map_filter f p xs ]

pub returns : goal.returns
returns c =
    let stays : List ℕ → Bool = λ n. not (bytes_eq c.args.name.now n) in
    ap (map string_bytes) (filter_same _ (λ s. stays (string_bytes s)) _ (λ x b f' k. search rules) _ _ c.retain.ensures.filtered)
    ∙ map_filter string_bytes stays c.args.names.now.items
