use Rattle.std.proofs.Common.{◌≡◌, ◌∙◌, is_some, true, sym}
use Rattle.serde_json.specs.Find.{as_object}
use Rattle.serde_json.specs.View.{view}
use Rattle.utoipa_base.specs.Kinds.{object_schema}
use Rattle.utoipa_base.proofs.ByRows.{passes_on, table_refused, table_fits, read-no_object, fields-later, fields-fit, fields-nil}
use Rattle.utoipa_schema.specs.Parts.{text_content_rows, text_content_docs, object_annotation_rows, object_annotation_docs, greatest_limit_rows, greatest_limit_docs, least_limit_rows, least_limit_docs, object_end_rows, object_end_docs}
use Rattle.utoipa_base.proofs.TableParts.{join-fit, join-first, join-later, fields_of_part, no_fields_of_part}
use Rattle.utoipa_schema.proofs.assemble.assemble_object.Goals as goal

pub returns-then-not-is_object-clause-err : goal.returns-then-not-is_object-clause-err
returns-then-not-is_object-clause-err c = read-no_object object_schema _ (sym c.is_object.ensures ∙ c.if-not-is_object.true)

pub returns-in_err-content-clause-err : goal.returns-in_err-content-clause-err
returns-in_err-content-clause-err c = passes_on _ _ _ _ c.from_residual.ensures.1 c.in_err-content.ensures.err (λ h. table_refused object_schema _ (fields-later _ _ _ (join-first text_content_rows _ _ (no_fields_of_part text_content_rows _ h))))

pub returns-in_err-annotations-clause-err : goal.returns-in_err-annotations-clause-err
returns-in_err-annotations-clause-err c = passes_on _ _ _ _ c.from_residual-in_err-annotations.ensures.1 c.in_err-annotations.ensures.err (λ h. table_refused object_schema _ (fields-later _ _ _ (join-later text_content_rows _ _ (fields-later _ _ _ (join-first object_annotation_rows _ _ (no_fields_of_part object_annotation_rows _ h))))))

pub returns-in_err-greatest-clause-err : goal.returns-in_err-greatest-clause-err
returns-in_err-greatest-clause-err c = passes_on _ _ _ _ c.from_residual-in_err-greatest.ensures.1 c.in_err-greatest.ensures.err (λ h. table_refused object_schema _ (fields-later _ _ _ (join-later text_content_rows _ _ (fields-later _ _ _ (join-later object_annotation_rows _ _ (join-first greatest_limit_rows _ _ (no_fields_of_part greatest_limit_rows _ h)))))))

pub returns-in_err-least-clause-err : goal.returns-in_err-least-clause-err
returns-in_err-least-clause-err c = passes_on _ _ _ _ c.from_residual-in_err-least.ensures.1 c.in_err-least.ensures.err (λ h. table_refused object_schema _ (fields-later _ _ _ (join-later text_content_rows _ _ (fields-later _ _ _ (join-later object_annotation_rows _ _ (join-later greatest_limit_rows _ _ (join-first least_limit_rows _ _ (no_fields_of_part least_limit_rows _ h))))))))

pub returns-in_err-last-clause-err : goal.returns-in_err-last-clause-err
returns-in_err-last-clause-err c = passes_on _ _ _ _ c.from_residual-in_err-last.ensures.1 c.in_err-last.ensures.err (λ h. table_refused object_schema _ (fields-later _ _ _ (join-later text_content_rows _ _ (fields-later _ _ _ (join-later object_annotation_rows _ _ (join-later greatest_limit_rows _ _ (join-later least_limit_rows _ _ (fields-later _ _ _ (fields-later _ _ _ (join-first object_end_rows _ _ (no_fields_of_part object_end_rows _ h)))))))))))

pub returns-clause-ok : goal.returns-clause-ok
returns-clause-ok c = λ content has properties additional_properties property_names.
    let is : is_some (as_object (view c.args.tree.now)) ≡ true = sym c.is_object.ensures ∙ c.if-not-is_object.false in
    table_fits object_schema _ _ _ is
    (fields-fit _ _ _ _ _ additional_properties
    (join-fit text_content_rows _ _ (text_content_docs c.in_ok-content.content) _ (fields_of_part text_content_rows _ _ c.in_ok-content.ensures.ok)
    (fields-fit _ _ _ _ _ has
    (join-fit object_annotation_rows _ _ (object_annotation_docs c.in_ok-annotations.annotations) _ (fields_of_part object_annotation_rows _ _ c.in_ok-annotations.ensures.ok)
    (join-fit greatest_limit_rows _ _ (greatest_limit_docs c.in_ok-greatest.greatest) _ (fields_of_part greatest_limit_rows _ _ c.in_ok-greatest.ensures.ok)
    (join-fit least_limit_rows _ _ (least_limit_docs c.in_ok-least.least) _ (fields_of_part least_limit_rows _ _ c.in_ok-least.ensures.ok)
    (fields-fit _ _ _ _ _ properties
    (fields-fit _ _ _ _ _ property_names
    (join-fit object_end_rows _ _ (object_end_docs c.in_ok-last.last) _ (fields_of_part object_end_rows _ _ c.in_ok-last.ensures.ok)
    (fields-nil _))))))))))
    c.in_ok-extensions.ensures
