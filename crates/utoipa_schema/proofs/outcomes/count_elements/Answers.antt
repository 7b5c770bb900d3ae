use Rattle.std.proofs.Common.{◌≡◌, Some, ◌∙◌, sym, rules}
use Rattle.serde_json.specs.Find.{as_array}
use Rattle.serde_json.specs.View.{view, items_view}
use Rattle.utoipa_schema.proofs.Walks.{elements_length}
use Rattle.utoipa_schema.proofs.outcomes.count_elements.Goals as goal

pub returns-in-Some : goal.returns-in-Some
returns-in-Some c = λ b.
    let is : Some (items_view c.in-Some.list.now.items) ≡ as_array (view c.args.tree.now) = search rules in
    search rules ∙ sym (elements_length b (view c.args.tree.now) c.in-Some.list.now.items is)
