-- The walk by a list of tasks, as it gathers doubts.
use Rattle.std.proofs.Common.{◌≡◌, ℕ, List, [], ◌∷◌, ◌++◌, length, reverse, map, refl, ap, ◌∙◌}
use Rattle.utoipa_check.specs.Doubted.{doubted, all_doubted}
use Rattle.utoipa_check.specs.Places.{Place, Outcome, inner_places, Task, join, Reaches}
use Rattle.utoipa_check.proofs.Walks.{to_join}

each_doubted : (ps : List Place) → map doubted ps ≡ all_doubted ps
each_doubted [] = refl
each_doubted (p ∷ ps) = ap (λ os. doubted p ∷ os) (each_doubted ps)

-- a place whose inner places have been looked at: what is in doubt in them is on the stack
pub to_join_doubted : (end : List Outcome) (all rest : List Task) (p : Place) (n : ℕ) (os : List Outcome) → all ≡ rest ++ join p n ∷ [] → Reaches doubted end (reverse all) os
    → (below : List Outcome) × (os ≡ all_doubted (inner_places p.target p.tree) ++ below) × (n ≡ length below) × Reaches doubted end (reverse rest) (doubted p ∷ below)
to_join_doubted end all rest p n os before h =
    let j = to_join doubted end all rest p n os before h in
    (j.0, j.1 ∙ ap (λ xs. xs ++ j.0) (each_doubted (inner_places p.target p.tree)), j.2, j.3)
