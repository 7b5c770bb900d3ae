use Rattle.std.proofs.Common.{sym, subst}
use Rattle.utoipa_merging.proofs.MapViews.{in_order-map}
use Rattle.utoipa_path.specs.Docs.{operation_doc, path_item_doc}
use Rattle.utoipa_path.specs.declared.types.PathItem.{out-PathItem}
use Rattle.utoipa_paths.proofs.ItemSteps.{AreComingInOrder}
use Rattle.utoipa.proofs.KeyOrder.{found_in_order}
use Rattle.utoipa.proofs.key_order.items_in_order.Goals as goal

pub loop-item-preserved : goal.loop-item-preserved
loop-item-preserved c = λ later.
    c.loop-item.invariant (subst AreComingInOrder (sym c.in-Some.ensures.steps) (in_order-map operation_doc (out-PathItem c.in-Some.item.now).additional_operations c.len.ensures.ordered, later))

pub returns : goal.returns
returns c =
    let gives = c.into_iter-item-iterator.ensures.into_iter_gives in
    let all = c.loop-item.invariant (subst AreComingInOrder (sym c.in-None.ensures.steps.0) tt) in
    record {
      paths = in_order-map path_item_doc c.args.items.now gives.5;
      operations = found_in_order c.args.items.now.entries (subst AreComingInOrder gives.0 all);
    }
