use Rattle.std.proofs.Common.{sym, ◌≡◌, None, true, false, ap, ◌∙◌, rules, arith, codes}
use Rattle.serde_json.specs.Find.{get}
use Rattle.serde_json.specs.View.{view}
use Rattle.utoipa_base.specs.Kinds.{schema}
use Rattle.utoipa_base.specs.Reading.{is_null}
use Rattle.utoipa_base.specs.Views.{boxed}
use Rattle.utoipa_base.proofs.ByRows.{null_as}
use Rattle.utoipa_schema.specs.Docs.{schema_doc}
use Rattle.utoipa_schema.specs.Outcomes.{outcome_doc, count_of, last, own_part}
use Rattle.utoipa_schema.specs.Places.{alone, part, found}
use Rattle.utoipa_schema.proofs.Fitting.{null_fits, absent_fits, optional_fits, optional_fails, fits_as_well, alone_own}
use Rattle.utoipa_schema.proofs.members.property_names_from.Goals as goal

pub returns-then-is_null : goal.returns-then-is_null
returns-then-is_null c = λ d here.
    let none : is_null (view c.in-Some.member.now) ≡ true = search (rules, null_as) in
    null_fits (boxed schema_doc) (codes "propertyNames") schema d c.args.member c.in-Some.member _ here c.in-Some.is none

pub returns-in_err-value-in-Some : goal.returns-in_err-value-in-Some
returns-in_err-value-in-Some c = λ d here.
    let full : is_null (view c.in-Some.member.now) ≡ false = search (rules, null_as) in
    let same = ap own_part (c.requires ∙ ap (λ o. last (part (alone false) (found o))) c.in-Some.is) ∙ alone_own (view c.in-Some.member.now) in
    optional_fails schema_doc (boxed schema_doc) (codes "propertyNames") schema d c.args.member c.in-Some.member _ _ _ here c.in-Some.is full c.from_residual.ensures.1 (fits_as_well _ _ _ _ _ _ c.in_err-value-in-Some.ensures same (omega arith))

pub returns-in_err-new-in-Some : goal.returns-in_err-new-in-Some
returns-in_err-new-in-Some c = λ d here. record { ok = search rules; err = search rules; counted = search rules }

pub returns-in_ok-new-in-Some : goal.returns-in_ok-new-in-Some
returns-in_ok-new-in-Some c = λ d here.
    let full : is_null (view c.in-Some.member.now) ≡ false = search (rules, null_as) in
    let held : c.in_ok-new-in-Some.field-0.value ≡ c.in_ok-value-in-Some.value = search rules in
    let same = ap own_part (c.requires ∙ ap (λ o. last (part (alone false) (found o))) c.in-Some.is) ∙ alone_own (view c.in-Some.member.now) in
    optional_fits schema_doc (boxed schema_doc) (codes "propertyNames") schema d c.args.member c.in-Some.member c.in_ok-value-in-Some.value c.in_ok-new-in-Some.field-0 (count_of (outcome_doc c.args.outcome)) here c.in-Some.is full (ap schema_doc held) (fits_as_well _ _ _ _ (count_of (outcome_doc c.args.outcome)) (count_of (outcome_doc c.args.outcome)) c.in_ok-value-in-Some.ensures same (omega arith))

pub returns-in-None : goal.returns-in-None
returns-in-None c = λ d here.
    let gone : get (codes "propertyNames") d ≡ None = sym here ∙ ap found c.in-None.is in
    absent_fits (boxed schema_doc) (codes "propertyNames") schema d _ gone
