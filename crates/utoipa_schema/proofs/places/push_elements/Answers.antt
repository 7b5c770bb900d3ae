use Rattle.std.proofs.Common.{◌≡◌, ◌≤◌, ◌++◌, ◌∷◌, [], Some, map, length, ap, ◌∙◌, sym, arith, append_assoc}
use Rattle.std.proofs.lemmas.List.{take_all, map-append}
use Rattle.serde_json.specs.Find.{as_array}
use Rattle.serde_json.specs.View.{view, items_view}
use Rattle.utoipa_schema.specs.Places.{places, place_at, first_in_list, next_in_list, elements_of}
use Rattle.utoipa_schema.proofs.Walks.{items_list-view, elements-array}
use Rattle.utoipa_schema.proofs.places.push_elements.Goals as goal

pub returns-after-loop-tree : goal.returns-after-loop-tree
returns-after-loop-tree c =
    let b = c.args.may_be_reference in
    let old = places c.args.stack.now.items in
    let xs = c.deref.result.now in
    let first = c.in-Some-split_first.first.now in
    let others = c.in-Some-split_first.others.now in
    let whole : xs ≡ first ∷ others = c.in-Some-split_first.ensures.cases.0 in
    let is : Some (items_view xs) ≡ as_array (view c.args.tree.now) = ap (λ vs. Some (items_view vs)) c.deref.ensures.value ∙ c.in-Some.ensures in
    let past : length others ≤ c.loop-tree.tree-index = omega arith in
    c.loop-tree.invariant
    ∙ ap (λ vs. places c.push.new.self.items ++ map (place_at b next_in_list) (map view vs)) (take_all c.loop-tree.tree-index others past)
    ∙ ap (λ ps. ps ++ map (place_at b next_in_list) (map view others)) (ap places c.in_ok-push.ensures.items ∙ map-append _ c.args.stack.now.items _)
    ∙ append_assoc old (place_at b first_in_list (view first) ∷ []) (map (place_at b next_in_list) (map view others))
    ∙ ap (λ ds. old ++ place_at b first_in_list (view first) ∷ map (place_at b next_in_list) ds) (sym (items_list-view others))
    ∙ ap (λ vs. old ++ elements_of b (items_view vs)) (sym whole)
    ∙ ap (λ ps. old ++ ps) (sym (elements-array b (view c.args.tree.now) (items_view xs) is))
