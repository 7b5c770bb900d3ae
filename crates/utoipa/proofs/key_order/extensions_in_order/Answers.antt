use Rattle.std.proofs.Common.{sym, subst}
use Rattle.utoipa_merging.specs.Merged.{Ascends, names_in}
use Rattle.utoipa_merging.proofs.MapViews.{in_order-members}
use Rattle.utoipa_paths.specs.Paths.{AreExtensionsInOrder}
use Rattle.utoipa.proofs.KeyOrder.{none_to_order}
use Rattle.utoipa.proofs.key_order.extensions_in_order.Goals as goal

pub returns-in-Some : goal.returns-in-Some
returns-in-Some c =
    subst AreExtensionsInOrder (sym c.in-Some.is) (subst (λ ms. Ascends (names_in ms)) c.as_map.ensures (in_order-members _ c.len.ensures.ordered))

pub returns-in_default : goal.returns-in_default
returns-in_default c = none_to_order c.args.extensions.now c.in_default.not-Some
