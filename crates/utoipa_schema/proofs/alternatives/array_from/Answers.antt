use Rattle.std.proofs.Common.{◌∙◌, sym, ap}
use Rattle.serde_json.specs.View.{view}
use Rattle.std.proofs.lemmas.Result.{IfOk-weaker}
use Rattle.utoipa_base.specs.Kinds.{array_schema}
use Rattle.utoipa_base.proofs.ByRows.{passes_on, table_refused, fields-first, fields-later, read-no_object}
use Rattle.utoipa_base.proofs.TableParts.{join-later}
use Rattle.utoipa_schema.specs.Parts.{text_content_rows, array_annotation_rows, item_limit_rows}
use Rattle.utoipa_schema.proofs.Fewer.{array_kept}
use Rattle.utoipa_schema.proofs.alternatives.array_from.Goals as goal

pub returns-then-not-is_object-clause-err : goal.returns-then-not-is_object-clause-err
returns-then-not-is_object-clause-err c = read-no_object array_schema _ (sym c.is_object.ensures ∙ c.if-not-is_object.true)

pub array_items_from-requires : goal.array_items_from-requires
array_items_from-requires c = c.requires.inside.items

pub prefix_items_from-requires : goal.prefix_items_from-requires
prefix_items_from-requires c = c.requires.inside.prefix_items

pub returns-in_err-items-clause-err : goal.returns-in_err-items-clause-err
returns-in_err-items-clause-err c = passes_on _ _ _ _ c.from_residual.ensures.1 (c.in_err-items.ensures (view c.args.tree.now) (ap (λ m. m.items) c.requires.found)).err (λ h. table_refused array_schema _ (join-later text_content_rows _ _ (fields-later _ _ _ (join-later array_annotation_rows _ _ (fields-first _ _ _ h)))))

pub returns-in_err-prefix_items-clause-err : goal.returns-in_err-prefix_items-clause-err
returns-in_err-prefix_items-clause-err c = passes_on _ _ _ _ c.from_residual-in_err-prefix_items.ensures.1 (c.in_err-prefix_items.ensures (view c.args.tree.now) (ap (λ m. m.prefix_items) c.requires.found)).err (λ h. table_refused array_schema _ (join-later text_content_rows _ _ (fields-later _ _ _ (join-later array_annotation_rows _ _ (fields-later _ _ _ (join-later item_limit_rows _ _ (fields-first _ _ _ h)))))))

pub returns-clause-ok : goal.returns-clause-ok
returns-clause-ok c = IfOk-weaker c.assemble_array.result _ _ (λ a h content has. h content has (c.in_ok-items.ensures (view c.args.tree.now) (ap (λ m. m.items) c.requires.found)).ok (c.in_ok-prefix_items.ensures (view c.args.tree.now) (ap (λ m. m.prefix_items) c.requires.found)).ok) c.assemble_array.ensures.ok

pub returns-clause-without : goal.returns-clause-without
returns-clause-without c = IfOk-weaker c.assemble_array.result _ _ (λ a k. k.2) c.assemble_array.ensures.kept

pub returns-clause-counted : goal.returns-clause-counted
returns-clause-counted c = IfOk-weaker c.assemble_array.result _ _
    (λ a k. array_kept a c.in_ok-items.items c.in_ok-prefix_items.prefix_items _ _ k (c.in_ok-items.ensures (view c.args.tree.now) (ap (λ m. m.items) c.requires.found)).counted (c.in_ok-prefix_items.ensures (view c.args.tree.now) (ap (λ m. m.prefix_items) c.requires.found)).counted)
    c.assemble_array.ensures.kept
