use Rattle.utoipa.proofs.FurtherTags.{none_changed, one_changed, all_changed}
use Rattle.utoipa.proofs.tags.nested_items.Goals as goal

pub loop-path-init : goal.loop-path-init
loop-path-init c = none_changed _ _ _ _ c.into_iter-path-iterator.ensures.into_iter_gives.0 c.new-nested.ensures.empty

pub loop-path-preserved : goal.loop-path-preserved
loop-path-preserved c =
    one_changed _ _ _ _ _ (c.in-Some.path, c.in-Some.item) _ c.in_ok-item.item c.loop-path.invariant c.in-Some.ensures.steps c.into_iter-path-iterator.ensures.into_iter_gives.5 c.in_ok-item.ensures c.in_ok-put.ensures.ok

pub returns : goal.returns
returns c = all_changed _ _ _ _ c.loop-path.invariant c.in-None.ensures.steps.0
