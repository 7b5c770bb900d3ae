use Rattle.utoipa_merging.proofs.Filled.{filled_map}
use Rattle.utoipa_merging.proofs.MapViews.{in_order-map, ordered-map}
use Rattle.utoipa_merging_parts.proofs.filling.Tuple2BTreeMapStringFilling.fill.Goals as goal

pub returns-in-Ok-clause-filled : goal.returns-in-Ok-clause-filled
returns-in-Ok-clause-filled g c = (filled_map g.T.Documented.doc c.fill_noted.new.map c.args.self.now.0 c.args.later.0 c.in_ok-names.ensures.ok, c.in-Ok.ensures.filled)

pub returns-in-Ok-clause-ordered : goal.returns-in-Ok-clause-ordered
returns-in-Ok-clause-ordered g c =
    λ ordered. (in_order-map g.T.Documented.doc c.fill_noted.new.map (c.in_ok-names.ensures.ordered (ordered-map g.T.Documented.doc c.args.self.now.0 ordered.0)), c.in-Ok.ensures.ordered ordered.1)
