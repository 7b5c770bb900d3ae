use Rattle.std.proofs.Common.{◌≡◌, drop}
use Rattle.serde_json.specs.View.{items_view, members_view}
use Rattle.utoipa_outline.specs.Depth.{items_depth, members_depth}
use Rattle.utoipa_outline.proofs.depth.+depth.Given as goal

abbrev pub invariant-items_depth-loop-item : goal.invariant-items_depth-loop-item
invariant-items_depth-loop-item l = items_depth 0 (items_view l.item-items) ≡ items_depth l.deepest (items_view (drop l.item-index l.item-items))

abbrev pub invariant-members_depth-loop-member : goal.invariant-members_depth-loop-member
invariant-members_depth-loop-member l = members_depth 0 (members_view l.initial.member-iterator) ≡ members_depth l.deepest (members_view l.member-iterator)
