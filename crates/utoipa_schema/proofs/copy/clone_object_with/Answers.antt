use Rattle.std.proofs.Common.{◌∙◌, IfOk, refl, subst, ap}
use Rattle.utoipa_base.specs.Kinds.{schema, object_schema}
use Rattle.utoipa_base.specs.Refs.{ref_or_doc}
use Rattle.utoipa_base.specs.Views.{boxed, option_of, map_of_docs}
use Rattle.utoipa_base.proofs.TableParts.{same_field, same_part, same_table}
use Rattle.utoipa_schema.specs.Choice.{content_schema_doc}
use Rattle.utoipa_schema.specs.Docs.{schema_doc, additional_properties_doc}
use Rattle.utoipa_schema.specs.Parts.{text_content_docs, content_of_object, object_annotation_docs, annotations_of_object, greatest_limit_docs, greatest_limits_of_object, least_limit_docs, least_limits_of_object, object_end_docs, end_of_object, IsCopyOfParts}
use Rattle.utoipa_schema.proofs.copy.clone_object_with.Goals as goal

pub returns : goal.returns
returns c = λ properties additional_properties property_names content_schema.
    let object = c.args.object.now in
    let made = c.in_ok-schemas.ensures.ok in
    let parts = c.in_ok-schemas.parts in
    let same : IsCopyOfParts object parts = subst (λ r. IfOk r (IsCopyOfParts object)) made.1 c.clone_object_parts.ensures in
    same_table object_schema _ _ _ _
    (same_field _ _ _ _ (ap (λ s. option_of (boxed (additional_properties_doc schema_doc)) s.1) made.0 ∙ additional_properties)
    (same_part (text_content_docs parts.content) (text_content_docs (content_of_object object)) _ _ same.0
    (same_field _ _ _ _ (ap (λ s. content_schema_doc s.3) made.0 ∙ content_schema)
    (same_part (object_annotation_docs parts.annotations) (object_annotation_docs (annotations_of_object object)) _ _ same.1
    (same_part (greatest_limit_docs parts.greatest) (greatest_limit_docs (greatest_limits_of_object object)) _ _ same.2
    (same_part (least_limit_docs parts.least) (least_limit_docs (least_limits_of_object object)) _ _ same.3
    (same_field _ _ _ _ (ap (λ s. map_of_docs (ref_or_doc schema schema_doc) s.0) made.0 ∙ properties)
    (same_field _ _ _ _ (ap (λ s. option_of (boxed schema_doc) s.2) made.0 ∙ property_names)
    (same_part (object_end_docs parts.last) (object_end_docs (end_of_object object)) _ _ same.4 refl)))))))))
    same.5
