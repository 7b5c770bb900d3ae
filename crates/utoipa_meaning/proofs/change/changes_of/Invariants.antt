use Rattle.std.proofs.Common.{◌≡◌, ◌++◌, drop}
use Rattle.serde_json.specs.View.{view}
use Rattle.utoipa_meaning.specs.Changes.{changes_from}
use Rattle.utoipa_meaning.specs.Views.{all_changes, noted, trees_of}
use Rattle.utoipa_meaning.proofs.change.changes_of.Given as goal

abbrev pub invariant-loop-number : goal.invariant-loop-number
invariant-loop-number l =
    all_changes l.found.items ++ changes_from (noted l.origins) l.number (trees_of (drop l.number l.documents)) (view l.merged)
    ≡ changes_from (noted l.origins) 0 (trees_of l.documents) (view l.merged)
