use Rattle.std.proofs.Common.{◌∙◌, sym, ap}
use Rattle.serde_json.specs.Data.{array}
use Rattle.serde_json.specs.View.{view, items_view}
use Rattle.serde_json.proofs.Views.{view-Array}
use Rattle.utoipa_adapt.specs.Trees.{with_item}
use Rattle.utoipa_adapt.proofs.Turns.{pushed_view}
use Rattle.utoipa_adapt.proofs.editing.with_item.Goals as goal

pub returns-in_ok-push-in-Array : goal.returns-in_ok-push-in-Array
returns-in_ok-push-in-Array c =
    let before = c.in-Array.items in
    view-Array c.push.new.self ∙ ap (λ vs. array (items_view vs)) c.in_ok-push-in-Array.ensures.items ∙ ap array (pushed_view before.items c.args.item)
    ∙ ap (with_item (view c.args.item)) (sym (ap view c.in-Array.is ∙ view-Array before))
