use Rattle.std.proofs.Common.{Some, refl, sym, subst, ap, ◌∙◌, ◌++◌, map}
use Rattle.std.specs.Option.{unwrap_or}
use Rattle.utoipa_path.specs.Lists.{IsExtendedIfAny, own_place}
use Rattle.utoipa_path.proofs.AddedItems.{items_or_none}
use Rattle.utoipa_path.proofs.lists.add_places_or_clear.Goals as goal

pub returns-in_ok-add_places-in-Some : goal.returns-in_ok-add_places-in-Some
returns-in_ok-add_places-in-Some g c =
    let added = c.in_ok-add_places-in-Some.ensures in
    let before = items_or_none c.args.list.now c.new.result c.unwrap_or-places.result c.new.ensures.items (c.unwrap_or-places.ensures ∙ ap (λ o. unwrap_or o c.new.result) c.take-standing.ensures.value) in
    subst (λ o. IsExtendedIfAny g.I.IntoIterator.into_iter_gives g.I.IntoIter.Iterator.next_gives c.args.list.now o (Some c.add_places.new.list)) (sym c.in-Some.is) (_, added.0, added.1, refl, added.2 ∙ ap (λ items. items ++ map own_place added.0) before)
