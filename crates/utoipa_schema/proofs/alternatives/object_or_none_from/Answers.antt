use Rattle.std.proofs.Common.{◌≡◌, Some, Ok, option_map, ap, ◌∙◌, sym, arith, rules}
use Rattle.serde_json.specs.View.{view}
use Rattle.utoipa_base.specs.Docs as docs
use Rattle.utoipa_base.specs.Docs.{own_doc}
use Rattle.utoipa_base.specs.Kinds.{named, schema, object_schema}
use Rattle.utoipa_base.specs.Reading.{read}
use Rattle.utoipa_base.specs.Refs.{ref_or_doc}
use Rattle.utoipa_base.specs.Values.{schema_count}
use Rattle.utoipa_base.specs.declared.refs.RefOr.TheVariants as RefOr
use Rattle.utoipa_base.proofs.Places.{own_places}
use Rattle.utoipa_base.proofs.Readers.{refused_if_unfit, value_is}
use Rattle.utoipa_base.proofs.Tried.{fits_as}
use Rattle.utoipa_schema.specs.Docs.{schema_doc, object_doc}
use Rattle.utoipa_schema.specs.Folds.{schema-Object}
use Rattle.utoipa_schema.specs.declared.types.Schema as schemas
use Rattle.utoipa_schema.proofs.Choices.{as_an_object, no_object, no_schema}
use Rattle.utoipa_schema.proofs.Fewer.{single_object}
use Rattle.utoipa_schema.proofs.alternatives.object_or_none_from.Goals as goal

pub returns-then-not-may_be_object-clause-read : goal.returns-then-not-may_be_object-clause-read
returns-then-not-may_be_object-clause-read c =
    sym (ap (option_map own_doc) (no_object (view c.args.tree.now) c.requires.no_combination c.requires.no_array (sym c.may_be_object.ensures ∙ c.if-not-may_be_object.true)))

pub returns-in_ok-new-in-Some-clause-read : goal.returns-in_ok-new-in-Some-clause-read
returns-in_ok-new-in-Some-clause-read c =
    let is = fits_as c.object_from.result c.in-Some.object (c.in_ok-object.ensures ∙ ap Ok c.in-Some.is) in
    let taken = c.object_with_content_schema-object.ensures in
    let held : c.in_ok-new-in-Some.field-0.value ≡ RefOr.T (schemas.Object c.object_with_content_schema-object.result) = search rules in
    let this =
    as_an_object (view c.args.tree.now) _ c.requires.no_combination c.requires.no_array (sym c.may_be_object.ensures ∙ c.if-not-may_be_object.false) (value_is _ _ c.in-Some.object c.object_from.ensures.ok is c.args.content_schema c.requires.content)
    ∙ ap (λ x. Some (docs.schema_doc (object_doc x))) (sym taken) ∙ ap Some (sym (schema-Object c.object_with_content_schema-object.result)) in
    ap (λ p. Some (ref_or_doc schema schema_doc p)) held ∙ sym (ap (option_map own_doc) this)

pub returns-in_ok-new-in-Some-clause-counted : goal.returns-in_ok-new-in-Some-clause-counted
returns-in_ok-new-in-Some-clause-counted c =
    let is = fits_as c.object_from.result c.in-Some.object (c.in_ok-object.ensures ∙ ap Ok c.in-Some.is) in
    let taken = c.object_with_content_schema-object.ensures in
    let without = value_is _ _ c.in-Some.object c.object_from.ensures.without is in
    let counted = value_is _ _ c.in-Some.object c.object_from.ensures.counted is in
    let held : c.in_ok-new-in-Some.field-0.value ≡ RefOr.T (schemas.Object c.object_with_content_schema-object.result) = search rules in
    omega (arith, single_object c.in-Some.object c.args.content_schema _ without counted, ap (λ x. schema_count (schema_doc (schemas.Object x))) taken, ap (λ p. schema_count (ref_or_doc schema schema_doc p)) held, own_places (schema_doc (schemas.Object c.object_with_content_schema-object.result)))

pub returns-in-None-clause-read : goal.returns-in-None-clause-read
returns-in-None-clause-read c =
    let none = refused_if_unfit (read (named object_schema) (view c.args.tree.now)) c.object_from.result c.object_from.ensures.err (c.in_ok-object.ensures ∙ ap Ok c.in-None.is) in
    sym (ap (option_map own_doc) (no_schema (view c.args.tree.now) c.requires.no_combination c.requires.no_array none))
