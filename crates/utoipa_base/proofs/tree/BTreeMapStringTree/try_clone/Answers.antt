use Rattle.std.proofs.Common.{◌∙◌, rules}
use Rattle.utoipa_base.proofs.WritingMaps.{copied_begun, copied_step, copied_map}
use Rattle.utoipa_base.proofs.tree.BTreeMapStringTree.try_clone.Goals as goal

pub loop-key-init : goal.loop-key-init
loop-key-init g c = copied_begun _ _ _ _ (c.into_iter-key-iterator.ensures.into_iter_gives ∙ c.iter-key-items.ensures.rest) (search rules)

pub loop-key-preserved : goal.loop-key-preserved
loop-key-preserved g c =
    copied_step _ _ _ _ _ _ _ _ _ c.loop-key.invariant c.in-Some.ensures.steps c.iter-key-items.ensures.ordered c.in_ok-name.ensures.cases c.in_ok-value.ensures c.in_ok-insert.ensures.entries

pub returns : goal.returns
returns g c = copied_map _ c.args.self.now c.loop-key.map _ c.loop-key.invariant c.in-None.ensures.steps.0
