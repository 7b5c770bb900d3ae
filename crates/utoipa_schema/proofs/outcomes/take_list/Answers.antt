use Rattle.std.proofs.Common.{◌≡◌, Some, [], map, ap, ◌∙◌, sym, rules, arith}
use Rattle.utoipa_base.specs.Kinds.{schema}
use Rattle.utoipa_base.specs.Refs.{ref_or_doc}
use Rattle.utoipa_schema.specs.Docs.{schema_doc}
use Rattle.utoipa_schema.specs.Outcomes.{all_docs}
use Rattle.utoipa_schema.specs.Places.{elements, part, found}
use Rattle.utoipa_schema.proofs.Taken.{no_list_count, nothing_taken, taken_as}
use Rattle.utoipa_schema.proofs.outcomes.take_list.Goals as goal

pub returns-in-Some-clause-read : goal.returns-in-Some-clause-read
returns-in-Some-clause-read c = λ b.
    let same = ap (λ o. part (elements b) (found o)) c.in-Some.is in
    taken_as _ _ _ _ _ _ (sym same) (c.take_elements.ensures.read b) (λ h. h ∙ ap all_docs (sym same))

pub returns-in-None-clause-read : goal.returns-in-None-clause-read
returns-in-None-clause-read c = λ b.
    let same = ap (λ o. part (elements b) (found o)) c.in-None.is in
    let none : c.new.result.items ≡ [] = search rules in
    nothing_taken _ _ _ same (ap (λ vs. Some (map (ref_or_doc schema schema_doc) vs)) none ∙ sym (ap all_docs same))

pub returns-in-None-clause-counted : goal.returns-in-None-clause-counted
returns-in-None-clause-counted c =
    let none : c.new.result.items ≡ [] = search rules in
    omega (arith, no_list_count c.new.result none)
