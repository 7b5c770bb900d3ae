use Rattle.std.proofs.Common.{◌≡◌, [], ap, ◌∙◌, rules}
use Rattle.utoipa_schema.specs.Outcomes.{of_one, one_of_outcomes}
use Rattle.utoipa_schema.specs.Places.{place_at, by_itself, read_by}
use Rattle.utoipa_schema.proofs.Groups.{grouped-last}
use Rattle.utoipa_schema.proofs.Taken.{last_taken, some_last, left_count, one_count}
use Rattle.utoipa_schema.proofs.outcomes.take_last.Goals as goal

pub returns-in-Some-clause-read : goal.returns-in-Some-clause-read
returns-in-Some-clause-read c = λ b d rest is.
    let this = last_taken _ _ c.in-Some.group _ (of_one (read_by b d)) c.in-Some.ensures.items (is ∙ grouped-last rest (place_at b by_itself d)) in
    (c.into_place.ensures ∙ ap one_of_outcomes this.0, this.1)

pub returns-in-Some-clause-counted : goal.returns-in-Some-clause-counted
returns-in-Some-clause-counted c = left_count _ _ c.in-Some.group _ c.in-Some.ensures.items (one_count _ _ c.into_place.ensures)

pub returns-in-None-clause-read : goal.returns-in-None-clause-read
returns-in-None-clause-read c = λ b d rest is.
    let none : c.args.filled.now.items ≡ [] = search rules in
    absurd (some_last _ _ (of_one (read_by b d)) none (is ∙ grouped-last rest (place_at b by_itself d)))
