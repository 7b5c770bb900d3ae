use Rattle.std.proofs.Common.{refl, ◌∙◌}
use Rattle.utoipa_base.proofs.NameHashes.{written_step, salt_written}
use Rattle.utoipa_base.proofs.name_hasher.NameHasher.from_names.Goals as goal

pub loop-name-init : goal.loop-name-init
loop-name-init g c = refl

pub loop-name-preserved : goal.loop-name-preserved
loop-name-preserved g c = written_step _ _ _ _ _ c.in-Some.ensures.steps c.hash.ensures ∙ c.loop-name.invariant

pub returns : goal.returns
returns g c =
    salt_written _ _ _ _ _ _ c.loop-name.invariant c.in-None.ensures.steps.0 c.new-state.ensures (c.into_iter-name-iterator.ensures.into_iter_gives ∙ c.keys-name-items.ensures.rest) c.finish.ensures
