use Rattle.utoipa_base.proofs.TokenOrderedMaps.{ordered_from_tokens}
use Rattle.utoipa_base.proofs.ordered_map.OrderedMapTree.from_tokens.Goals as goal

pub returns-clause-read : goal.returns-clause-read
returns-clause-read g c =
    ordered_from_tokens g.T.Documented.kind g.T.Documented.doc c.in_ok-entries.entries _ _ _ _ _ _ c.in_ok-in_order_of_names.ensures.ordered c.in_ok-in_order_of_names.ensures.same c.in_ok-entries.ensures.read
