use Rattle.std.proofs.Common.{◌∙◌, sym, ap}
use Rattle.serde_json.specs.View.{view}
use Rattle.std.proofs.lemmas.Result.{IfOk-weaker}
use Rattle.utoipa_base.specs.Kinds.{all_of_schema}
use Rattle.utoipa_base.specs.Values.{schema_count}
use Rattle.utoipa_base.proofs.ByRows.{table_refused, fields-first, read-no_object}
use Rattle.utoipa_schema.specs.Docs.{places_doc, schema_doc, all_of_doc}
use Rattle.utoipa_schema.proofs.Fitting.{fits_refused, passes_fits, table_fits_as}
use Rattle.utoipa_schema.proofs.MemberCounts.{all_of_counts}
use Rattle.utoipa_schema.proofs.alternatives.all_of_from.Goals as goal

pub returns-then-not-is_object : goal.returns-then-not-is_object
returns-then-not-is_object c = fits_refused _ _ _ _ (read-no_object all_of_schema _ (sym c.is_object.ensures ∙ c.if-not-is_object.true))

pub returns-in_err-items : goal.returns-in_err-items
returns-in_err-items c = passes_fits _ _ _ _ _ _ _ _ c.from_residual.ensures.1 (c.in_err-items.ensures (view c.args.tree.now) c.requires.found) (λ h. table_refused all_of_schema _ (fields-first _ _ _ h))

pub returns : goal.returns
returns c = table_fits_as (places_doc schema_doc) all_of_doc c.in_ok-items.items c.assemble_all_of.result _ _ _ (c.in_ok-items.ensures (view c.args.tree.now) c.requires.found) c.assemble_all_of.ensures.ok c.assemble_all_of.ensures.err
    (IfOk-weaker c.assemble_all_of.result _ _ (λ o k. all_of_counts o ∙ ap (λ v. schema_count (places_doc schema_doc v)) k) c.assemble_all_of.ensures.kept)
