use Rattle.std.proofs.Common.{◌≡◌, ◌++◌, drop}
use Rattle.serde_json.specs.View.{view, items_view}
use Rattle.utoipa_meaning.specs.Meaning.{all_meant}
use Rattle.utoipa_meaning.specs.Views.{borrowed}
use Rattle.utoipa_meaning.proofs.parameters.push_meant.Given as goal

abbrev pub invariant-loop-parameter : goal.invariant-loop-parameter
invariant-loop-parameter l =
    borrowed l.found.items ++ all_meant (view l.document) (items_view (drop l.parameter-index l.parameters.items))
    ≡ borrowed l.initial.found.items ++ all_meant (view l.document) (items_view l.parameters.items)
