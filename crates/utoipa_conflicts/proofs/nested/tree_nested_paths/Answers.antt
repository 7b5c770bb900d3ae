use Rattle.std.proofs.Common.{map, length, ap, sym, ◌∙◌}
use Rattle.std.proofs.lemmas.List.{length-map}
use Rattle.std.proofs.lemmas.Result.{IfOk-weaker}
use Rattle.std.proofs.lemmas.Simd.{map-map}
use Rattle.utoipa_conflicts.specs.Views.{item_of}
use Rattle.utoipa_conflicts.proofs.nested.tree_nested_paths.Goals as goal

pub returns-clause-paths : goal.returns-clause-paths
returns-clause-paths c =
    IfOk-weaker c.paths_of.result _ _ (λ v is. is ∙ sym (map-map (λ i. i.0) item_of c.in_ok-items.items.items) ∙ ap (map (λ i. i.0)) c.in_ok-items.ensures) c.paths_of.ensures

pub returns-clause-count : goal.returns-clause-count
returns-clause-count c = IfOk-weaker c.paths_of.result _ _ (λ v is. v.ok.0 ∙ sym (length-map v.items (λ p. p.now)) ∙ ap length is) (returns-clause-paths c)
