use Rattle.std.proofs.Common.{◌∙◌}
use Rattle.utoipa_base.proofs.WritingMaps.{copied_begun}
use Rattle.utoipa_base.proofs.OrderedMaps.{ordered_copied_step, ordered_map_copied}
use Rattle.utoipa_base.proofs.ordered_map.OrderedMapTree.try_clone.Goals as goal

pub loop-key-init : goal.loop-key-init
loop-key-init g c = copied_begun _ _ _ _ (c.into_iter-key-iterator.ensures.into_iter_gives ∙ c.iter-key-items.ensures.rest) c.under_hasher_of-map.ensures.empty

pub loop-key-preserved : goal.loop-key-preserved
loop-key-preserved g c =
    ordered_copied_step _ _ _ _ _ _ _ _ _ c.loop-key.invariant c.in-Some.ensures.steps c.iter-key-items.ensures.unique c.in_ok-name.ensures.cases c.in_ok-value.ensures c.in_ok-insert.ensures.entries

pub returns : goal.returns
returns g c = ordered_map_copied _ c.args.self.now c.loop-key.map _ c.loop-key.invariant c.in-None.ensures.steps.0
