use Rattle.std.proofs.Common.{◌++◌, ◌∷◌, [], ap, ◌∙◌, refl}
use Rattle.std.specs.Option.{unwrap_or}
use Rattle.utoipa_path.proofs.AddedItems.{items_or_none}
use Rattle.utoipa_path.proofs.lists.add_one.Goals as goal

pub returns : goal.returns
returns g c =
    (_, refl, c.in_ok-push.ensures.items ∙ ap (λ items. items ++ c.args.item ∷ []) (items_or_none c.args.list.now c.new.result c.unwrap_or-items.result c.new.ensures.items (c.unwrap_or-items.ensures ∙ ap (λ o. unwrap_or o c.new.result) c.take.ensures.value)))
