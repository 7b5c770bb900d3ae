use Rattle.std.proofs.Common.{sym, subst}
use Rattle.utoipa_merging.proofs.MapViews.{in_order-map}
use Rattle.utoipa_components.specs.Filled.{AreComponentsInOrder}
use Rattle.utoipa_components.proofs.FilledMaps.{each_in_order}
use Rattle.utoipa.proofs.KeyOrder.{no_components_to_order}
use Rattle.utoipa.proofs.key_order.components_in_order.Goals as goal

pub returns-in-Some : goal.returns-in-Some
returns-in-Some c =
    subst AreComponentsInOrder (sym c.in-Some.is)
    (each_in_order c.in-Some.components (in_order-map _ c.in-Some.components.schemas c.len.ensures.ordered, (in_order-map _ c.in-Some.components.responses c.len-in-Some.ensures.ordered, (in_order-map _ c.in-Some.components.parameters c.len-in-Some-2.ensures.ordered, (in_order-map _ c.in-Some.components.examples c.len-in-Some-3.ensures.ordered, (in_order-map _ c.in-Some.components.request_bodies c.len-in-Some-4.ensures.ordered, (in_order-map _ c.in-Some.components.headers c.len-in-Some-5.ensures.ordered, (in_order-map _ c.in-Some.components.links c.len-in-Some-6.ensures.ordered, (in_order-map _ c.in-Some.components.callbacks c.len-in-Some-7.ensures.ordered, (in_order-map _ c.in-Some.components.path_items c.len-in-Some-8.ensures.ordered, (in_order-map _ c.in-Some.components.media_types c.len-in-Some-9.ensures.ordered, (in_order-map _ c.in-Some.components.security_schemes c.len-in-Some-10.ensures.ordered, tt))))))))))))

pub returns-in_default : goal.returns-in_default
returns-in_default c = no_components_to_order c.args.components.now c.in_default.not-Some
