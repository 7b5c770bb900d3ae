use Rattle.serde_json.specs.View.{view}
use Rattle.utoipa_meaning.specs.Views.{borrowed, has_key}
use Rattle.utoipa_meaning.proofs.Keys.{in_effect}
use Rattle.utoipa_meaning.proofs.parameters.effective_parameters.Goals as goal

pub returns : goal.returns
returns c =
    in_effect (view c.args.standing.document.now) (view c.args.standing.path_item.now) (view c.args.standing.operation.now) (borrowed c.in_ok-all.all.items) (borrowed c.in_ok-of_item.of_item.items)
    (borrowed c.push_others.new.found.items) (has_key c.in_ok-keys.keys) c.in_ok-all.ensures c.in_ok-of_item.ensures c.in_ok-keys.ensures c.in_ok-push_others.ensures
