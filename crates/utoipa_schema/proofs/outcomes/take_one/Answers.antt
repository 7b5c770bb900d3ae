use Rattle.std.proofs.Common.{ap, ◌∙◌, sym}
use Rattle.utoipa_schema.specs.Outcomes.{last}
use Rattle.utoipa_schema.specs.Places.{alone, part, found}
use Rattle.utoipa_schema.proofs.Taken.{nothing_taken, taken_as}
use Rattle.utoipa_schema.proofs.outcomes.take_one.Goals as goal

pub returns-in-Some-clause-read : goal.returns-in-Some-clause-read
returns-in-Some-clause-read c = λ b.
    let same = ap (λ o. part (alone b) (found o)) c.in-Some.is in
    taken_as _ _ _ _ _ _ (sym same) (c.take_alone.ensures.read b) (λ h. h ∙ ap last (sym same))

pub returns-in-None-clause-read : goal.returns-in-None-clause-read
returns-in-None-clause-read c = λ b.
    let same = ap (λ o. part (alone b) (found o)) c.in-None.is in
    nothing_taken _ _ _ same (sym (ap last same))
