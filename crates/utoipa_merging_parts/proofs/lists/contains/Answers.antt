use Rattle.utoipa_merging_parts.proofs.Walks.{passed}
use Rattle.utoipa_merging_parts.proofs.lists.contains.Goals as goal

pub loop-other-preserved : goal.loop-other-preserved
loop-other-preserved g c =
    passed g.T.Documented.doc c.args.list.now c.loop-other.other-index c.other-item.result (g.T.Documented.doc c.args.entry.now) c.same.result c.loop-other-test.true c.other-item.is c.same.ensures c.if-same.false c.loop-other.invariant
