use Rattle.std.proofs.Common.{map, length, ap, sym, ◌∙◌, string_bytes}
use Rattle.std.proofs.lemmas.List.{length-map}
use Rattle.std.proofs.lemmas.Result.{IfOk-weaker}
use Rattle.std.proofs.lemmas.Simd.{map-map}
use Rattle.utoipa_conflicts.specs.Nested.{nested_paths}
use Rattle.utoipa_conflicts.specs.Views.{item_of}
use Rattle.utoipa_conflicts.proofs.told.nested_paths.Goals as goal

pub returns-clause-paths : goal.returns-clause-paths
returns-clause-paths g c =
    IfOk-weaker c.all_joined.result _ _
    (λ v is. is ∙ sym (map-map (λ i. i.0) item_of c.in_ok-items.items.items) ∙ ap (map (λ i. i.0)) c.in_ok-items.ensures ∙ ap nested_paths c.in_ok-tree.ensures)
    c.all_joined.ensures

pub returns-clause-count : goal.returns-clause-count
returns-clause-count g c = IfOk-weaker c.all_joined.result _ _ (λ v is. v.ok.0 ∙ sym (length-map v.items string_bytes) ∙ ap length is) (returns-clause-paths g c)
