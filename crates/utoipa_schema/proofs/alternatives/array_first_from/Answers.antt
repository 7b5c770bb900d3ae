use Rattle.std.proofs.Common.{◌≡◌, Some, Ok, option_map, ap, ◌∙◌, sym, arith, rules}
use Rattle.serde_json.specs.View.{view}
use Rattle.std.proofs.lemmas.Result.{IfOk-weaker}
use Rattle.utoipa_base.specs.Docs as docs
use Rattle.utoipa_base.specs.Docs.{own_doc}
use Rattle.utoipa_base.specs.Kinds.{named, schema, array_schema}
use Rattle.utoipa_base.specs.Reading.{read}
use Rattle.utoipa_base.specs.Refs.{ref_or_doc}
use Rattle.utoipa_base.specs.Values.{schema_count}
use Rattle.utoipa_base.specs.declared.refs.RefOr.TheVariants as RefOr
use Rattle.utoipa_base.proofs.Places.{own_places}
use Rattle.utoipa_base.proofs.Readers.{refused_if_unfit, value_is}
use Rattle.utoipa_base.proofs.Tried.{fits_as}
use Rattle.utoipa_schema.specs.Docs.{schema_doc, array_doc}
use Rattle.utoipa_schema.specs.Folds.{schema-Array}
use Rattle.utoipa_schema.specs.declared.types.Schema as schemas
use Rattle.utoipa_schema.proofs.Choices.{as_array as by_array}
use Rattle.utoipa_schema.proofs.Fewer.{single_array}
use Rattle.utoipa_schema.proofs.alternatives.array_first_from.Goals as goal

pub returns-in-Some-clause-read : goal.returns-in-Some-clause-read
returns-in-Some-clause-read c =
    let is = fits_as c.array_from.result c.in-Some.array (c.in_ok-array.ensures ∙ ap Ok c.in-Some.is) in
    let taken = c.array_with_content_schema-array.ensures in
    let held : c.in_ok-new.field-0.value ≡ RefOr.T (schemas.Array c.array_with_content_schema-array.result) = search rules in
    let this = by_array (view c.args.tree.now) _ c.requires.no_combination (value_is _ _ c.in-Some.array c.array_from.ensures.ok is c.args.content_schema c.requires.content) ∙ ap (λ x. Some (docs.schema_doc (array_doc x))) (sym taken) ∙ ap Some (sym (schema-Array c.array_with_content_schema-array.result)) in
    ap (λ p. Some (ref_or_doc schema schema_doc p)) held ∙ sym (ap (option_map own_doc) this)

pub returns-in-Some-clause-counted : goal.returns-in-Some-clause-counted
returns-in-Some-clause-counted c =
    let is = fits_as c.array_from.result c.in-Some.array (c.in_ok-array.ensures ∙ ap Ok c.in-Some.is) in
    let taken = c.array_with_content_schema-array.ensures in
    let without = value_is _ _ c.in-Some.array c.array_from.ensures.without is in
    let counted = value_is _ _ c.in-Some.array c.array_from.ensures.counted is in
    let held : c.in_ok-new.field-0.value ≡ RefOr.T (schemas.Array c.array_with_content_schema-array.result) = search rules in
    omega (arith, single_array c.in-Some.array c.args.content_schema _ without counted, ap (λ x. schema_count (schema_doc (schemas.Array x))) taken, ap (λ p. schema_count (ref_or_doc schema schema_doc p)) held, own_places (schema_doc (schemas.Array c.array_with_content_schema-array.result)))

pub object_or_none_from-requires-clause-no_array : goal.object_or_none_from-requires-clause-no_array
object_or_none_from-requires-clause-no_array c = refused_if_unfit (read (named array_schema) (view c.args.tree.now)) c.array_from.result c.array_from.ensures.err (c.in_ok-array.ensures ∙ ap Ok c.in_default.is)

pub returns-clause-counted : goal.returns-clause-counted
returns-clause-counted c = IfOk-weaker c.object_or_none_from.result _ _ (λ o h. omega (arith, h)) c.object_or_none_from.ensures.counted
