use Rattle.std.proofs.Common.{◌≡◌, ap, sym, ◌∙◌}
use Rattle.utoipa_base.specs.Unambiguous.{is_unambiguous}
use Rattle.utoipa_base.proofs.UnambiguousParts.{unambiguous-flag, unambiguous-none, unambiguous-schema, unambiguous-some}
use Rattle.utoipa_schema.specs.Docs.{schema_doc, array_items_doc, additional_properties_doc}
use Rattle.utoipa_schema.specs.Folds.{schema-Array, schema-Object, schema-OneOf, schema-AllOf, schema-AnyOf, items-False}
use Rattle.utoipa_schema.proofs.unambiguous.+schemas.Goals as goal

pub SchemaUnambiguous::is_unambiguous-returns-in-Array : goal.SchemaUnambiguous::is_unambiguous-returns-in-Array
SchemaUnambiguous::is_unambiguous-returns-in-Array t c = c.is_unambiguous.ensures ∙ sym (ap (λ s. is_unambiguous (schema_doc s)) c.in-Array.is ∙ ap is_unambiguous (schema-Array c.in-Array.array) ∙ unambiguous-schema _)

pub SchemaUnambiguous::is_unambiguous-returns-in-Object : goal.SchemaUnambiguous::is_unambiguous-returns-in-Object
SchemaUnambiguous::is_unambiguous-returns-in-Object t c = c.is_unambiguous-in-Object.ensures ∙ sym (ap (λ s. is_unambiguous (schema_doc s)) c.in-Object.is ∙ ap is_unambiguous (schema-Object c.in-Object.object) ∙ unambiguous-schema _)

pub SchemaUnambiguous::is_unambiguous-returns-in-OneOf : goal.SchemaUnambiguous::is_unambiguous-returns-in-OneOf
SchemaUnambiguous::is_unambiguous-returns-in-OneOf t c = c.is_unambiguous-in-OneOf.ensures ∙ sym (ap (λ s. is_unambiguous (schema_doc s)) c.in-OneOf.is ∙ ap is_unambiguous (schema-OneOf c.in-OneOf.one_of) ∙ unambiguous-schema _)

pub SchemaUnambiguous::is_unambiguous-returns-in-AllOf : goal.SchemaUnambiguous::is_unambiguous-returns-in-AllOf
SchemaUnambiguous::is_unambiguous-returns-in-AllOf t c = c.is_unambiguous-in-AllOf.ensures ∙ sym (ap (λ s. is_unambiguous (schema_doc s)) c.in-AllOf.is ∙ ap is_unambiguous (schema-AllOf c.in-AllOf.all_of) ∙ unambiguous-schema _)

pub SchemaUnambiguous::is_unambiguous-returns-in-AnyOf : goal.SchemaUnambiguous::is_unambiguous-returns-in-AnyOf
SchemaUnambiguous::is_unambiguous-returns-in-AnyOf t c = c.is_unambiguous-in-AnyOf.ensures ∙ sym (ap (λ s. is_unambiguous (schema_doc s)) c.in-AnyOf.is ∙ ap is_unambiguous (schema-AnyOf c.in-AnyOf.any_of) ∙ unambiguous-schema _)

pub ArrayItemsUnambiguous::is_unambiguous-returns-in-False : goal.ArrayItemsUnambiguous::is_unambiguous-returns-in-False
ArrayItemsUnambiguous::is_unambiguous-returns-in-False t c = sym (ap (λ i. is_unambiguous (array_items_doc i)) c.in-False.is ∙ ap is_unambiguous items-False ∙ unambiguous-flag _)

pub additional_passes-returns-in-RefOr : goal.additional_passes-returns-in-RefOr
additional_passes-returns-in-RefOr t c =
    let same : additional_properties_doc schema_doc c.in-Some.additional.value ≡ _ = ap (additional_properties_doc schema_doc) (sym c.deref.ensures ∙ c.in-RefOr.is) in
    rw c.in-Some.is (c.is_unambiguous.ensures ∙ ap is_unambiguous (sym same) ∙ sym (unambiguous-some _))

pub additional_passes-returns-in-FreeForm : goal.additional_passes-returns-in-FreeForm
additional_passes-returns-in-FreeForm t c =
    let same : additional_properties_doc schema_doc c.in-Some.additional.value ≡ _ = ap (additional_properties_doc schema_doc) (sym c.deref.ensures ∙ c.in-FreeForm.is) in
    rw c.in-Some.is (sym (unambiguous-flag c.in-FreeForm.field-0) ∙ ap is_unambiguous (sym same) ∙ sym (unambiguous-some _))

pub additional_passes-returns-in-None : goal.additional_passes-returns-in-None
additional_passes-returns-in-None t c = rw c.in-None.is (sym unambiguous-none)
