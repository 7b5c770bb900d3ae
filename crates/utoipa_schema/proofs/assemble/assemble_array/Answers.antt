use Rattle.std.proofs.Common.{◌≡◌, codes, is_some, true}
use Rattle.serde_json.specs.Find.{as_object}
use Rattle.serde_json.specs.View.{view}
use Rattle.utoipa_base.specs.Kinds.{array_schema, array_items}
use Rattle.utoipa_base.proofs.ByRows.{passes_on, table_refused, table_fits, fields-later, fields-fit, fields-nil}
use Rattle.utoipa_schema.specs.Parts.{text_content_rows, text_content_docs, array_annotation_rows, array_annotation_docs, item_limit_rows, item_limit_docs, array_end_rows, array_end_docs}
use Rattle.utoipa_base.proofs.TableParts.{join-fit, join-first, join-later, fields_of_part, no_fields_of_part, has_members}
use Rattle.utoipa_schema.proofs.assemble.assemble_array.Goals as goal

pub returns-in_err-content-clause-err : goal.returns-in_err-content-clause-err
returns-in_err-content-clause-err c = passes_on _ _ _ _ c.from_residual.ensures.1 c.in_err-content.ensures.err (λ h. table_refused array_schema _ (join-first text_content_rows _ _ (no_fields_of_part text_content_rows _ h)))

pub returns-in_err-annotations-clause-err : goal.returns-in_err-annotations-clause-err
returns-in_err-annotations-clause-err c = passes_on _ _ _ _ c.from_residual-in_err-annotations.ensures.1 c.in_err-annotations.ensures.err (λ h. table_refused array_schema _ (join-later text_content_rows _ _ (fields-later _ _ _ (join-first array_annotation_rows _ _ (no_fields_of_part array_annotation_rows _ h)))))

pub returns-in_err-limits-clause-err : goal.returns-in_err-limits-clause-err
returns-in_err-limits-clause-err c = passes_on _ _ _ _ c.from_residual-in_err-limits.ensures.1 c.in_err-limits.ensures.err (λ h. table_refused array_schema _ (join-later text_content_rows _ _ (fields-later _ _ _ (join-later array_annotation_rows _ _ (fields-later _ _ _ (join-first item_limit_rows _ _ (no_fields_of_part item_limit_rows _ h)))))))

pub returns-in_err-last-clause-err : goal.returns-in_err-last-clause-err
returns-in_err-last-clause-err c = passes_on _ _ _ _ c.from_residual-in_err-last.ensures.1 c.in_err-last.ensures.err (λ h. table_refused array_schema _ (join-later text_content_rows _ _ (fields-later _ _ _ (join-later array_annotation_rows _ _ (fields-later _ _ _ (join-later item_limit_rows _ _ (fields-later _ _ _ (join-first array_end_rows _ _ (no_fields_of_part array_end_rows _ h)))))))))

pub returns-clause-ok : goal.returns-clause-ok
returns-clause-ok c = λ content has items prefix_items.
    let is : is_some (as_object (view c.args.tree.now)) ≡ true = has_members (codes "items") array_items _ _ items in
    table_fits array_schema _ _ _ is
    (join-fit text_content_rows _ _ (text_content_docs c.in_ok-content.content) _ (fields_of_part text_content_rows _ _ c.in_ok-content.ensures.ok)
    (fields-fit _ _ _ _ _ has
    (join-fit array_annotation_rows _ _ (array_annotation_docs c.in_ok-annotations.annotations) _ (fields_of_part array_annotation_rows _ _ c.in_ok-annotations.ensures.ok)
    (fields-fit _ _ _ _ _ items
    (join-fit item_limit_rows _ _ (item_limit_docs c.in_ok-limits.limits) _ (fields_of_part item_limit_rows _ _ c.in_ok-limits.ensures.ok)
    (fields-fit _ _ _ _ _ prefix_items
    (join-fit array_end_rows _ _ (array_end_docs c.in_ok-last.last) _ (fields_of_part array_end_rows _ _ c.in_ok-last.ensures.ok)
    (fields-nil _))))))))
    c.in_ok-extensions.ensures
