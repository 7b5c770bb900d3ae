use Rattle.std.proofs.Common.{ap, ◌∙◌, map, option_map, string_bytes}
use Rattle.std.specs.BTreeMap.{get_by_text}
use Rattle.serde_json.specs.View.{view}
use Rattle.utoipa_conflicts.specs.Nested.{answered}
use Rattle.utoipa_conflicts.specs.Views.{all_conflicts, all_filled, all_items}
use Rattle.utoipa_conflicts.proofs.NestedItems.{tree, nested_listed}
use Rattle.utoipa_conflicts.proofs.nested.tree_nested_conflicts.Goals as goal

pub returns : goal.returns
returns c =
    nested_listed (all_conflicts c.new-found.result.items) (all_conflicts c.put_covered.new.found.items) (all_conflicts c.put_covered-2.new.found.items) (all_conflicts c.put_rest.new.found.items)
    (λ path. option_map tree (get_by_text c.in_ok-standing.standing path)) (all_items c.in_ok-own_items.own_items.items) (all_items c.in_ok-put.put.items) (all_filled c.in_ok-slots.slots.items)
    (map string_bytes c.args.answers.now) (view c.args.own.now) (view c.args.nested.now) (ap all_conflicts c.new-found.ensures.items) c.in_ok-put_covered.ensures c.in_ok-put_covered-2.ensures c.in_ok-put_rest.ensures
    c.in_ok-own_items.ensures (c.in_ok-put.ensures ∙ ap (answered (map string_bytes c.args.answers.now)) c.in_ok-nested_items.ensures) c.in_ok-standing.ensures c.in_ok-slots.ensures.listed
