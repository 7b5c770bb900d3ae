use Rattle.std.proofs.Common.{refl}
use Rattle.utoipa_base.specs.Kinds.{array_schema}
use Rattle.utoipa_schema.specs.Parts.{text_content_docs, content_of_array, array_annotation_docs, annotations_of_array, item_limit_docs, item_limits_of_array, array_end_docs, end_of_array}
use Rattle.utoipa_base.proofs.TableParts.{same_field, same_part, same_table}
use Rattle.utoipa_schema.proofs.copy.clone_array_with.Goals as goal

pub returns : goal.returns
returns c = λ items prefix_items content_schema.
    same_table array_schema _ _ _ _
    (same_part (text_content_docs c.in_ok-content.content) (text_content_docs (content_of_array c.args.array.now)) _ _ c.in_ok-content.ensures
    (same_field _ _ _ _ content_schema
    (same_part (array_annotation_docs c.in_ok-annotations.annotations) (array_annotation_docs (annotations_of_array c.args.array.now)) _ _ c.in_ok-annotations.ensures
    (same_field _ _ _ _ items
    (same_part (item_limit_docs c.in_ok-limits.limits) (item_limit_docs (item_limits_of_array c.args.array.now)) _ _ c.in_ok-limits.ensures
    (same_field _ _ _ _ prefix_items
    (same_part (array_end_docs c.in_ok-last.last) (array_end_docs (end_of_array c.args.array.now)) _ _ c.in_ok-last.ensures refl)))))))
    c.in_ok-extensions.ensures
