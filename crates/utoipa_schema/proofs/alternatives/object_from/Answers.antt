use Rattle.std.proofs.Common.{ap}
use Rattle.serde_json.specs.View.{view}
use Rattle.std.proofs.lemmas.Result.{IfOk-weaker}
use Rattle.utoipa_base.specs.Kinds.{object_schema}
use Rattle.utoipa_base.proofs.ByRows.{passes_on, table_refused, fields-first, fields-later}
use Rattle.utoipa_base.proofs.TableParts.{join-later}
use Rattle.utoipa_schema.specs.Parts.{text_content_rows, object_annotation_rows, greatest_limit_rows, least_limit_rows}
use Rattle.utoipa_schema.proofs.Fewer.{object_kept}
use Rattle.utoipa_schema.proofs.alternatives.object_from.Goals as goal

pub properties_from-requires : goal.properties_from-requires
properties_from-requires c = c.requires.inside.properties

pub additional_properties_from-requires : goal.additional_properties_from-requires
additional_properties_from-requires c = c.requires.inside.additional_properties

pub property_names_from-requires : goal.property_names_from-requires
property_names_from-requires c = c.requires.inside.property_names

pub returns-in_err-properties-clause-err : goal.returns-in_err-properties-clause-err
returns-in_err-properties-clause-err c = passes_on _ _ _ _ c.from_residual.ensures.1 (c.in_err-properties.ensures (view c.args.tree.now) (ap (λ m. m.properties) c.requires.found)).err (λ h. table_refused object_schema _ (fields-later _ _ _ (join-later text_content_rows _ _ (fields-later _ _ _ (join-later object_annotation_rows _ _ (join-later greatest_limit_rows _ _ (join-later least_limit_rows _ _ (fields-first _ _ _ h))))))))

pub returns-in_err-additional_properties-clause-err : goal.returns-in_err-additional_properties-clause-err
returns-in_err-additional_properties-clause-err c = passes_on _ _ _ _ c.from_residual-in_err-additional_properties.ensures.1 (c.in_err-additional_properties.ensures (view c.args.tree.now) (ap (λ m. m.additional_properties) c.requires.found)).err (λ h. table_refused object_schema _ (fields-first _ _ _ h))

pub returns-in_err-property_names-clause-err : goal.returns-in_err-property_names-clause-err
returns-in_err-property_names-clause-err c = passes_on _ _ _ _ c.from_residual-in_err-property_names.ensures.1 (c.in_err-property_names.ensures (view c.args.tree.now) (ap (λ m. m.property_names) c.requires.found)).err (λ h. table_refused object_schema _ (fields-later _ _ _ (join-later text_content_rows _ _ (fields-later _ _ _ (join-later object_annotation_rows _ _ (join-later greatest_limit_rows _ _ (join-later least_limit_rows _ _ (fields-later _ _ _ (fields-first _ _ _ h)))))))))

pub returns-clause-ok : goal.returns-clause-ok
returns-clause-ok c = IfOk-weaker c.assemble_object.result _ _ (λ o h content has. h content has (c.in_ok-properties.ensures (view c.args.tree.now) (ap (λ m. m.properties) c.requires.found)).ok (c.in_ok-additional_properties.ensures (view c.args.tree.now) (ap (λ m. m.additional_properties) c.requires.found)).ok (c.in_ok-property_names.ensures (view c.args.tree.now) (ap (λ m. m.property_names) c.requires.found)).ok) c.assemble_object.ensures.ok

pub returns-clause-without : goal.returns-clause-without
returns-clause-without c = IfOk-weaker c.assemble_object.result _ _ (λ o k. k.3) c.assemble_object.ensures.kept

pub returns-clause-counted : goal.returns-clause-counted
returns-clause-counted c = IfOk-weaker c.assemble_object.result _ _
    (λ o k. object_kept o c.in_ok-properties.properties c.in_ok-additional_properties.additional_properties c.in_ok-property_names.property_names _ _ _ k
    (c.in_ok-properties.ensures (view c.args.tree.now) (ap (λ m. m.properties) c.requires.found)).counted (c.in_ok-additional_properties.ensures (view c.args.tree.now) (ap (λ m. m.additional_properties) c.requires.found)).counted (c.in_ok-property_names.ensures (view c.args.tree.now) (ap (λ m. m.property_names) c.requires.found)).counted)
    c.assemble_object.ensures.kept
