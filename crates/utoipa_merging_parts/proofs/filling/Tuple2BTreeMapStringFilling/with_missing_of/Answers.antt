use Rattle.utoipa_merging.proofs.Filled.{filled_map}
use Rattle.utoipa_merging.proofs.MapViews.{in_order-map, ordered-map}
use Rattle.utoipa_merging_parts.proofs.filling.Tuple2BTreeMapStringFilling.with_missing_of.Goals as goal

pub returns-clause-filled : goal.returns-clause-filled
returns-clause-filled g c = (filled_map g.T.Documented.doc c.fill_missing.new.map c.args.self.0 c.args.later.0 c.in_ok-fill_missing.ensures.ok, c.in_ok-others.ensures.filled)

pub returns-clause-ordered : goal.returns-clause-ordered
returns-clause-ordered g c =
    λ ordered. (in_order-map g.T.Documented.doc c.fill_missing.new.map (c.in_ok-fill_missing.ensures.ordered (ordered-map g.T.Documented.doc c.args.self.0 ordered.0)), c.in_ok-others.ensures.ordered ordered.1)
