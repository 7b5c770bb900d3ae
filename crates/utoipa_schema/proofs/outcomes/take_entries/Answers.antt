use Rattle.std.proofs.Common.{◌≡◌, [], ap, ◌∙◌, rules, arith}
use Rattle.serde_json.specs.View.{view}
use Rattle.utoipa_schema.specs.Outcomes.{of_map, map_of_outcomes, all_entries}
use Rattle.utoipa_schema.specs.Places.{entries}
use Rattle.utoipa_schema.proofs.Taken.{no_map_count, last_taken, some_last, left_count, map_last, map_count}
use Rattle.utoipa_schema.proofs.outcomes.take_entries.Goals as goal

pub returns-in-Some-clause-read : goal.returns-in-Some-clause-read
returns-in-Some-clause-read c = λ b rest is.
    let d = view c.args.tree.now in
    let some = is ∙ map_last rest b d _ c.count_entries.ensures.ordered (c.count_entries.ensures.many b) (λ none. search rules) in
    let this = last_taken _ _ c.in-Some.group _ (of_map (all_entries (entries b d))) c.in-Some.ensures.items some in
    (c.into_map.ensures ∙ ap map_of_outcomes this.0, this.1)

pub returns-in-Some-clause-counted : goal.returns-in-Some-clause-counted
returns-in-Some-clause-counted c = left_count _ _ c.in-Some.group _ c.in-Some.ensures.items (map_count _ _ c.into_map.ensures)

pub returns-in-None-clause-read : goal.returns-in-None-clause-read
returns-in-None-clause-read c = λ b rest is.
    let d = view c.args.tree.now in
    let none : c.args.filled.now.items ≡ [] = search rules in
    absurd (some_last _ _ (of_map (all_entries (entries b d))) none (is ∙ map_last rest b d _ c.count_entries.ensures.ordered (c.count_entries.ensures.many b) (λ none. search rules)))

pub returns-then-count_entries-eq0-clause-counted : goal.returns-then-count_entries-eq0-clause-counted
returns-then-count_entries-eq0-clause-counted c =
    let none : c.new.result.entries ≡ [] = search rules in
    omega (arith, no_map_count c.new.result none)
