use Rattle.std.proofs.Common.{◌≡◌, Some, [], ap, ◌∙◌, sym, rules, arith}
use Rattle.utoipa_base.specs.Kinds.{schema}
use Rattle.utoipa_base.specs.Refs.{ref_or_doc}
use Rattle.utoipa_base.specs.Views.{pairs_of}
use Rattle.utoipa_schema.specs.Docs.{schema_doc}
use Rattle.utoipa_schema.specs.Outcomes.{all_entries}
use Rattle.utoipa_schema.specs.Places.{entries, part, found}
use Rattle.utoipa_schema.proofs.Taken.{no_map_count, nothing_taken, taken_as}
use Rattle.utoipa_schema.proofs.outcomes.take_map.Goals as goal

pub returns-in-Some-clause-read : goal.returns-in-Some-clause-read
returns-in-Some-clause-read c = λ b.
    let same = ap (λ o. part (entries b) (found o)) c.in-Some.is in
    taken_as _ _ _ _ _ _ (sym same) (c.take_entries.ensures.read b) (λ h. h ∙ ap all_entries (sym same))

pub returns-in-None-clause-read : goal.returns-in-None-clause-read
returns-in-None-clause-read c = λ b.
    let same = ap (λ o. part (entries b) (found o)) c.in-None.is in
    let none : c.new.result.entries ≡ [] = search rules in
    nothing_taken _ _ _ same (ap (λ es. Some (pairs_of (ref_or_doc schema schema_doc) es)) none ∙ sym (ap all_entries same))

pub returns-in-None-clause-counted : goal.returns-in-None-clause-counted
returns-in-None-clause-counted c =
    let none : c.new.result.entries ≡ [] = search rules in
    omega (arith, no_map_count c.new.result none)
