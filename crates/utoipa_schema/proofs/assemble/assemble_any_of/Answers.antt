use Rattle.std.proofs.Common.{◌≡◌, codes, is_some, true}
use Rattle.serde_json.specs.Find.{as_object}
use Rattle.serde_json.specs.View.{view}
use Rattle.utoipa_base.specs.Kinds.{any_of_schema, list_of, ref_or, schema}
use Rattle.utoipa_base.proofs.ByRows.{passes_on, table_refused, table_fits, fields-first, fields-later, fields-fit, fields-nil}
use Rattle.utoipa_schema.specs.Parts.{combination_rows, combination_docs}
use Rattle.utoipa_base.proofs.TableParts.{join-fit, join-first, join-later, fields_of_part, no_fields_of_part, has_members}
use Rattle.utoipa_schema.proofs.assemble.assemble_any_of.Goals as goal

pub returns-in_err-combination-clause-err : goal.returns-in_err-combination-clause-err
returns-in_err-combination-clause-err c = passes_on _ _ _ _ c.from_residual.ensures.1 c.in_err-combination.ensures.err (λ h. table_refused any_of_schema _ (fields-later _ _ _ (join-first combination_rows _ _ (no_fields_of_part combination_rows _ h))))

pub returns-in_err-schema_type-clause-err : goal.returns-in_err-schema_type-clause-err
returns-in_err-schema_type-clause-err c = passes_on _ _ _ _ c.from_residual-in_err-schema_type.ensures.1 c.in_err-schema_type.ensures.err (λ h. table_refused any_of_schema _ (fields-later _ _ _ (join-later combination_rows _ _ (fields-first _ _ _ h))))

pub returns-clause-ok : goal.returns-clause-ok
returns-clause-ok c = λ items.
    let is : is_some (as_object (view c.args.tree.now)) ≡ true = has_members (codes "anyOf") (list_of (ref_or schema)) _ _ items in
    table_fits any_of_schema _ _ _ is
    (fields-fit _ _ _ _ _ items
    (join-fit combination_rows _ _ (combination_docs c.in_ok-combination.combination) _ (fields_of_part combination_rows _ _ c.in_ok-combination.ensures.ok)
    (fields-fit _ _ _ _ _ c.in_ok-schema_type.ensures.ok
    (fields-nil _))))
    c.in_ok-extensions.ensures
