use Rattle.std.proofs.Common.{sym, ◌≡◌, None, true, false, refl, ap, ◌∙◌, rules, arith, codes}
use Rattle.serde_json.specs.Find.{get}
use Rattle.serde_json.specs.View.{view}
use Rattle.utoipa_base.specs.Kinds.{schema, ref_or}
use Rattle.utoipa_base.specs.Refs.{ref_or_doc}
use Rattle.utoipa_base.specs.Reading.{is_null}
use Rattle.utoipa_base.specs.Views.{boxed}
use Rattle.utoipa_base.proofs.ByRows.{null_as}
use Rattle.utoipa_schema.specs.Docs.{schema_doc}
use Rattle.utoipa_schema.specs.Outcomes.{outcome_doc, count_of, last}
use Rattle.utoipa_schema.specs.Places.{alone, part, found}
use Rattle.utoipa_schema.proofs.Fitting.{null_fits, absent_fits, optional_fits, optional_fails, fits_as_well, alone_read}
use Rattle.utoipa_schema.proofs.members.content_schema_from.Goals as goal

pub returns-then-is_null : goal.returns-then-is_null
returns-then-is_null c = λ d here.
    let none : is_null (view c.in-Some.member.now) ≡ true = search (rules, null_as) in
    null_fits (boxed (ref_or_doc schema schema_doc)) (codes "contentSchema") (ref_or schema) d c.args.member c.in-Some.member _ here c.in-Some.is none

pub returns-in_err-only_place-in-Some : goal.returns-in_err-only_place-in-Some
returns-in_err-only_place-in-Some c = λ d here.
    let full : is_null (view c.in-Some.member.now) ≡ false = search (rules, null_as) in
    let same = c.requires ∙ ap (λ o. last (part (alone true) (found o))) c.in-Some.is ∙ alone_read (view c.in-Some.member.now) in
    optional_fails (boxed (ref_or_doc schema schema_doc)) (boxed (ref_or_doc schema schema_doc)) (codes "contentSchema") (ref_or schema) d c.args.member c.in-Some.member _ _ _ here c.in-Some.is full c.from_residual.ensures.1 (fits_as_well _ _ _ _ _ _ c.in_err-only_place-in-Some.ensures same (omega arith))

pub returns-in_ok-only_place-in-Some : goal.returns-in_ok-only_place-in-Some
returns-in_ok-only_place-in-Some c = λ d here.
    let full : is_null (view c.in-Some.member.now) ≡ false = search (rules, null_as) in
    let same = c.requires ∙ ap (λ o. last (part (alone true) (found o))) c.in-Some.is ∙ alone_read (view c.in-Some.member.now) in
    optional_fits (boxed (ref_or_doc schema schema_doc)) (boxed (ref_or_doc schema schema_doc)) (codes "contentSchema") (ref_or schema) d c.args.member c.in-Some.member c.in_ok-only_place-in-Some.field-0 c.in_ok-only_place-in-Some.field-0 (count_of (outcome_doc c.args.outcome)) here c.in-Some.is full refl (fits_as_well _ _ _ _ (count_of (outcome_doc c.args.outcome)) (count_of (outcome_doc c.args.outcome)) c.in_ok-only_place-in-Some.ensures same (omega arith))

pub returns-in-None : goal.returns-in-None
returns-in-None c = λ d here.
    let gone : get (codes "contentSchema") d ≡ None = sym here ∙ ap found c.in-None.is in
    absent_fits (boxed (ref_or_doc schema schema_doc)) (codes "contentSchema") (ref_or schema) d _ gone
