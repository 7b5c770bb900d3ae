use Rattle.utoipa_paths.proofs.ItemSteps.{AreComingInOrder}
use Rattle.utoipa.proofs.key_order.items_in_order.Given as goal

-- where what is still to come is in order, all is
abbrev pub invariant-loop-item : goal.invariant-loop-item
invariant-loop-item l = AreComingInOrder l.item-iterator → AreComingInOrder l.initial.item-iterator
