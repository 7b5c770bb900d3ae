use Rattle.std.proofs.Common.{sym, ◌≡◌, None, true, false, ap, rules, codes, ◌∙◌}
use Rattle.serde_json.specs.Find.{get}
use Rattle.serde_json.specs.View.{view}
use Rattle.utoipa_base.specs.Kinds.{additional_properties as additional_kind}
use Rattle.utoipa_base.specs.Reading.{is_null}
use Rattle.utoipa_base.specs.Views.{boxed}
use Rattle.utoipa_base.proofs.ByRows.{null_as}
use Rattle.utoipa_schema.specs.Docs.{schema_doc, additional_properties_doc}
use Rattle.utoipa_schema.specs.Outcomes.{last}
use Rattle.utoipa_schema.specs.Places.{alone, part, found}
use Rattle.utoipa_schema.proofs.Fitting.{null_fits, absent_fits, optional_fits, optional_fails}
use Rattle.utoipa_schema.proofs.members.additional_properties_from.Goals as goal

pub additional_from-requires : goal.additional_from-requires
additional_from-requires c =
    c.requires ∙ ap (λ o. last (part (alone true) (found o))) c.in-Some.is

pub returns-then-is_null : goal.returns-then-is_null
returns-then-is_null c = λ d here.
    let none : is_null (view c.in-Some.member.now) ≡ true = search (rules, null_as) in
    null_fits (boxed (additional_properties_doc schema_doc)) (codes "additionalProperties") additional_kind d c.args.member c.in-Some.member _ here c.in-Some.is none

pub returns-in_err-value-in-Some : goal.returns-in_err-value-in-Some
returns-in_err-value-in-Some c = λ d here.
    let full : is_null (view c.in-Some.member.now) ≡ false = search (rules, null_as) in
    optional_fails (additional_properties_doc schema_doc) (boxed (additional_properties_doc schema_doc)) (codes "additionalProperties") additional_kind d c.args.member c.in-Some.member _ _ _ here c.in-Some.is full c.from_residual.ensures.1 c.in_err-value-in-Some.ensures

pub returns-in_err-new-in-Some : goal.returns-in_err-new-in-Some
returns-in_err-new-in-Some c = λ d here. record { ok = search rules; err = search rules; counted = search rules }

pub returns-in_ok-new-in-Some : goal.returns-in_ok-new-in-Some
returns-in_ok-new-in-Some c = λ d here.
    let full : is_null (view c.in-Some.member.now) ≡ false = search (rules, null_as) in
    let held : c.in_ok-new-in-Some.field-0.value ≡ c.in_ok-value-in-Some.value = search rules in
    optional_fits (additional_properties_doc schema_doc) (boxed (additional_properties_doc schema_doc)) (codes "additionalProperties") additional_kind d c.args.member c.in-Some.member _ _ _ here c.in-Some.is full (ap (additional_properties_doc schema_doc) held) c.in_ok-value-in-Some.ensures

pub returns-in-None : goal.returns-in-None
returns-in-None c = λ d here.
    let gone : get (codes "additionalProperties") d ≡ None = sym here ∙ ap found c.in-None.is in
    absent_fits (boxed (additional_properties_doc schema_doc)) (codes "additionalProperties") additional_kind d _ gone
