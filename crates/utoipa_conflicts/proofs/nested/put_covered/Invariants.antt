use Rattle.std.proofs.Common.{◌≡◌, ◌++◌, drop, option_map}
use Rattle.std.specs.BTreeMap.{get_by_text}
use Rattle.std.specs.List.{flat_map}
use Rattle.serde_json.specs.View.{view}
use Rattle.utoipa_conflicts.specs.Conflicts.{place_of_item}
use Rattle.utoipa_conflicts.specs.Nested.{unless_same}
use Rattle.utoipa_conflicts.specs.Views.{all_conflicts, all_items}
use Rattle.utoipa_conflicts.proofs.nested.put_covered.Given as goal

abbrev pub invariant-loop-item : goal.invariant-loop-item
invariant-loop-item l =
    all_conflicts l.found.items ++ flat_map (λ i. unless_same (place_of_item i.0) 1 l.number i.1 (option_map (λ v. view v.now) (get_by_text l.put i.0))) (all_items (drop l.item-index l.items.items))
    ≡ all_conflicts l.initial.found.items ++ flat_map (λ i. unless_same (place_of_item i.0) 1 l.number i.1 (option_map (λ v. view v.now) (get_by_text l.put i.0))) (all_items l.items.items)
