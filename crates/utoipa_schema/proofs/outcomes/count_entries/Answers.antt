use Rattle.std.proofs.Common.{◌≡◌, Some, ◌∙◌, sym, rules}
use Rattle.serde_json.specs.Find.{as_object}
use Rattle.serde_json.specs.View.{view, members_view}
use Rattle.utoipa_schema.proofs.Walks.{entries_length}
use Rattle.utoipa_schema.proofs.outcomes.count_entries.Goals as goal

pub returns-in-Some-clause-many : goal.returns-in-Some-clause-many
returns-in-Some-clause-many c = λ b.
    let is : Some (members_view c.in-Some.map.now.entries) ≡ as_object (view c.args.tree.now) = search rules in
    search rules ∙ sym (entries_length b (view c.args.tree.now) c.in-Some.map.now.entries is)
