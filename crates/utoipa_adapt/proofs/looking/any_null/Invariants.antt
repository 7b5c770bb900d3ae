use Rattle.std.proofs.Common.{◌≡◌, drop}
use Rattle.serde_json.specs.View.{items_view}
use Rattle.utoipa_adapt.specs.Trees as specs
use Rattle.utoipa_adapt.proofs.looking.any_null.Given as goal

abbrev pub invariant-loop-item : goal.invariant-loop-item
invariant-loop-item l = specs.any_null (items_view l.items.items) ≡ specs.any_null (items_view (drop l.item-index l.items.items))
