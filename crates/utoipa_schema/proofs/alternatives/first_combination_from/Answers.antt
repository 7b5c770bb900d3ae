use Rattle.std.proofs.Common.{◌≡◌, Some, Ok, option_map, ap, ◌∙◌, sym, arith, rules}
use Rattle.serde_json.specs.View.{view}
use Rattle.utoipa_base.specs.Docs.{own_doc}
use Rattle.utoipa_base.specs.Kinds.{named, schema, one_of_schema, all_of_schema, any_of_schema}
use Rattle.utoipa_base.specs.Reading.{read}
use Rattle.utoipa_base.specs.Refs.{ref_or_doc}
use Rattle.utoipa_base.specs.Values.{schema_count}
use Rattle.utoipa_base.specs.declared.refs.RefOr.TheVariants as RefOr
use Rattle.utoipa_base.proofs.Places.{own_places}
use Rattle.utoipa_schema.specs.Docs.{schema_doc, one_of_doc, all_of_doc, any_of_doc}
use Rattle.utoipa_schema.specs.Folds.{schema-OneOf, schema-AllOf, schema-AnyOf}
use Rattle.utoipa_schema.specs.declared.types.Schema as schemas
use Rattle.utoipa_schema.proofs.Choices.{as_one_of, as_all_of, as_any_of}
use Rattle.utoipa_schema.proofs.Fitting.{fits_value, fits_none}
use Rattle.utoipa_schema.proofs.SchemaCounts.{counts_one}
use Rattle.utoipa_schema.proofs.alternatives.first_combination_from.Goals as goal

pub one_of_from-requires-clause-found : goal.one_of_from-requires-clause-found
one_of_from-requires-clause-found c = ap (λ m. m.one_of) c.requires.found

pub one_of_from-requires-clause-inside : goal.one_of_from-requires-clause-inside
one_of_from-requires-clause-inside c = c.requires.inside.one_of

pub all_of_from-requires-clause-found : goal.all_of_from-requires-clause-found
all_of_from-requires-clause-found c = ap (λ m. m.all_of) c.requires.found

pub all_of_from-requires-clause-inside : goal.all_of_from-requires-clause-inside
all_of_from-requires-clause-inside c = c.requires.inside.all_of

pub any_of_from-requires-clause-found : goal.any_of_from-requires-clause-found
any_of_from-requires-clause-found c = ap (λ m. m.any_of) c.requires.found

pub any_of_from-requires-clause-inside : goal.any_of_from-requires-clause-inside
any_of_from-requires-clause-inside c = c.requires.inside.any_of

pub returns-in-Some-clause-read : goal.returns-in-Some-clause-read
returns-in-Some-clause-read c =
    let v = c.in-Some.one_of in
    let this = fits_value one_of_doc (read (named one_of_schema) (view c.args.tree.now)) c.one_of_from.result v _ c.one_of_from.ensures (c.in_ok-one_of.ensures ∙ ap Ok c.in-Some.is) in
    let held : c.in_ok-new.field-0.value ≡ RefOr.T (schemas.OneOf v) = search rules in
    ap (λ p. Some (ref_or_doc schema schema_doc p)) held ∙ sym (ap (option_map own_doc) (as_one_of (view c.args.tree.now) _ this.0 ∙ ap Some (sym (schema-OneOf v))))

pub returns-in-Some-clause-counted : goal.returns-in-Some-clause-counted
returns-in-Some-clause-counted c =
    let v = c.in-Some.one_of in
    let this = fits_value one_of_doc (read (named one_of_schema) (view c.args.tree.now)) c.one_of_from.result v _ c.one_of_from.ensures (c.in_ok-one_of.ensures ∙ ap Ok c.in-Some.is) in
    let held : c.in_ok-new.field-0.value ≡ RefOr.T (schemas.OneOf v) = search rules in
    omega (arith, this.1, ap schema_count (schema-OneOf v), counts_one (one_of_doc v), ap (λ p. schema_count (ref_or_doc schema schema_doc p)) held, own_places (schema_doc (schemas.OneOf v)))

pub returns-in-Some-2-clause-read : goal.returns-in-Some-2-clause-read
returns-in-Some-2-clause-read c =
    let one = fits_none one_of_doc (read (named one_of_schema) (view c.args.tree.now)) c.one_of_from.result _ c.one_of_from.ensures (c.in_ok-one_of.ensures ∙ ap Ok c.in_default.is) in
    let v = c.in-Some-2.all_of in
    let this = fits_value all_of_doc (read (named all_of_schema) (view c.args.tree.now)) c.all_of_from.result v _ c.all_of_from.ensures (c.in_ok-all_of.ensures ∙ ap Ok c.in-Some-2.is) in
    let held : c.in_ok-new-2.field-0.value ≡ RefOr.T (schemas.AllOf v) = search rules in
    ap (λ p. Some (ref_or_doc schema schema_doc p)) held ∙ sym (ap (option_map own_doc) (as_all_of (view c.args.tree.now) _ one this.0 ∙ ap Some (sym (schema-AllOf v))))

pub returns-in-Some-2-clause-counted : goal.returns-in-Some-2-clause-counted
returns-in-Some-2-clause-counted c =
    let v = c.in-Some-2.all_of in
    let this = fits_value all_of_doc (read (named all_of_schema) (view c.args.tree.now)) c.all_of_from.result v _ c.all_of_from.ensures (c.in_ok-all_of.ensures ∙ ap Ok c.in-Some-2.is) in
    let held : c.in_ok-new-2.field-0.value ≡ RefOr.T (schemas.AllOf v) = search rules in
    omega (arith, this.1, ap schema_count (schema-AllOf v), counts_one (all_of_doc v), ap (λ p. schema_count (ref_or_doc schema schema_doc p)) held, own_places (schema_doc (schemas.AllOf v)))

pub returns-in_ok-new-in-Some-3-clause-read : goal.returns-in_ok-new-in-Some-3-clause-read
returns-in_ok-new-in-Some-3-clause-read c =
    let one = fits_none one_of_doc (read (named one_of_schema) (view c.args.tree.now)) c.one_of_from.result _ c.one_of_from.ensures (c.in_ok-one_of.ensures ∙ ap Ok c.in_default.is) in
    let all = fits_none all_of_doc (read (named all_of_schema) (view c.args.tree.now)) c.all_of_from.result _ c.all_of_from.ensures (c.in_ok-all_of.ensures ∙ ap Ok c.in_default-2.is) in
    let v = c.in-Some-3.any_of in
    let this = fits_value any_of_doc (read (named any_of_schema) (view c.args.tree.now)) c.any_of_from.result v _ c.any_of_from.ensures (c.in_ok-any_of.ensures ∙ ap Ok c.in-Some-3.is) in
    let held : c.in_ok-new-in-Some-3.field-0.value ≡ RefOr.T (schemas.AnyOf v) = search rules in
    ap (λ p. Some (ref_or_doc schema schema_doc p)) held ∙ sym (ap (option_map own_doc) (as_any_of (view c.args.tree.now) _ one all this.0 ∙ ap Some (sym (schema-AnyOf v))))

pub returns-in_ok-new-in-Some-3-clause-counted : goal.returns-in_ok-new-in-Some-3-clause-counted
returns-in_ok-new-in-Some-3-clause-counted c =
    let v = c.in-Some-3.any_of in
    let this = fits_value any_of_doc (read (named any_of_schema) (view c.args.tree.now)) c.any_of_from.result v _ c.any_of_from.ensures (c.in_ok-any_of.ensures ∙ ap Ok c.in-Some-3.is) in
    let held : c.in_ok-new-in-Some-3.field-0.value ≡ RefOr.T (schemas.AnyOf v) = search rules in
    omega (arith, this.1, ap schema_count (schema-AnyOf v), counts_one (any_of_doc v), ap (λ p. schema_count (ref_or_doc schema schema_doc p)) held, own_places (schema_doc (schemas.AnyOf v)))

pub returns-in-None-clause-read : goal.returns-in-None-clause-read
returns-in-None-clause-read c =
    let one = fits_none one_of_doc (read (named one_of_schema) (view c.args.tree.now)) c.one_of_from.result _ c.one_of_from.ensures (c.in_ok-one_of.ensures ∙ ap Ok c.in_default.is) in
    let all = fits_none all_of_doc (read (named all_of_schema) (view c.args.tree.now)) c.all_of_from.result _ c.all_of_from.ensures (c.in_ok-all_of.ensures ∙ ap Ok c.in_default-2.is) in
    let any = fits_none any_of_doc (read (named any_of_schema) (view c.args.tree.now)) c.any_of_from.result _ c.any_of_from.ensures (c.in_ok-any_of.ensures ∙ ap Ok c.in-None.is) in
    (one, all, any)
