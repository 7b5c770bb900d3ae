use Rattle.utoipa_outline.proofs.Names.{name_more}
use Rattle.utoipa_outline.proofs.counted.by_use.Goals as goal

pub loop-name-preserved : goal.loop-name-preserved
loop-name-preserved c = record {
  used = name_more _ c.args.names.now c.loop-name.name-index _ _ _ _ c.loop-name.invariant.used c.loop-name-test.true c.in_ok-put_name.ensures.used;
  unused = name_more _ c.args.names.now c.loop-name.name-index _ _ _ _ c.loop-name.invariant.unused c.loop-name-test.true c.in_ok-put_name.ensures.unused;
}
