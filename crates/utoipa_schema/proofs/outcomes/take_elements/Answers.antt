use Rattle.std.proofs.Common.{◌≡◌, [], ap, ◌∙◌, rules, arith}
use Rattle.serde_json.specs.View.{view}
use Rattle.utoipa_schema.specs.Outcomes.{of_list, list_of_outcomes, all_docs}
use Rattle.utoipa_schema.specs.Places.{elements}
use Rattle.utoipa_schema.proofs.Taken.{no_list_count, last_taken, some_last, left_count, list_last, list_count}
use Rattle.utoipa_schema.proofs.outcomes.take_elements.Goals as goal

pub returns-in-Some-clause-read : goal.returns-in-Some-clause-read
returns-in-Some-clause-read c = λ b rest is.
    let d = view c.args.tree.now in
    let some = is ∙ list_last rest b d _ (c.count_elements.ensures b) (λ none. search rules) in
    let this = last_taken _ _ c.in-Some.group _ (of_list (all_docs (elements b d))) c.in-Some.ensures.items some in
    (c.into_list.ensures ∙ ap list_of_outcomes this.0, this.1)

pub returns-in-Some-clause-counted : goal.returns-in-Some-clause-counted
returns-in-Some-clause-counted c = left_count _ _ c.in-Some.group _ c.in-Some.ensures.items (list_count _ _ c.into_list.ensures)

pub returns-in-None-clause-read : goal.returns-in-None-clause-read
returns-in-None-clause-read c = λ b rest is.
    let d = view c.args.tree.now in
    let none : c.args.filled.now.items ≡ [] = search rules in
    absurd (some_last _ _ (of_list (all_docs (elements b d))) none (is ∙ list_last rest b d _ (c.count_elements.ensures b) (λ none. search rules)))

pub returns-then-count_elements-eq0-clause-counted : goal.returns-then-count_elements-eq0-clause-counted
returns-then-count_elements-eq0-clause-counted c =
    let none : c.new.result.items ≡ [] = search rules in
    omega (arith, no_list_count c.new.result none)
