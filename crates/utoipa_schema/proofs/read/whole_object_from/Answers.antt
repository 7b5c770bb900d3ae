use Rattle.std.proofs.Common.{[], Some, true, ap, ◌∙◌, sym, arith}
use Rattle.serde_json.specs.View.{view}
use Rattle.utoipa_base.specs.Values.{schema_count}
use Rattle.utoipa_schema.specs.Docs.{object_doc}
use Rattle.utoipa_schema.specs.Places.{data_of, of_object}
use Rattle.utoipa_schema.proofs.Fitting.{passes_fits, passes_refused}
use Rattle.utoipa_schema.proofs.SchemaCounts.{no_object_table, object_content_counts}
use Rattle.utoipa_schema.proofs.read.whole_object_from.Goals as goal

pub object_from-requires-clause-inside : goal.object_from-requires-clause-inside
object_from-requires-clause-inside c =
    let one = c.take_one-in_content.ensures.read true (of_object (data_of c.args.members.now)) c.requires.filled in
    (c.take_of_object-in_object.ensures.read [] one.1).0

pub returns-in_err-object : goal.returns-in_err-object
returns-in_err-object c = passes_refused _ _ _ _ _ c.from_residual.ensures.1 c.in_err-object.ensures.err

pub content_schema_from-requires : goal.content_schema_from-requires
content_schema_from-requires c = (c.take_one-in_content.ensures.read true (of_object (data_of c.args.members.now)) c.requires.filled).0

pub returns-in_err-content_schema : goal.returns-in_err-content_schema
returns-in_err-content_schema c = passes_fits _ _ _ _ _ _ _ _ c.from_residual-in_err-content_schema.ensures.1 (c.in_err-content_schema.ensures (view c.args.tree.now) (ap (λ m. m.content_schema) c.requires.found)) (no_object_table (view c.args.tree.now))

pub returns : goal.returns
returns c =
    let content = c.in_ok-content_schema.ensures (view c.args.tree.now) (ap (λ m. m.content_schema) c.requires.found) in
    record {
      ok = c.in_ok-object.ensures.ok c.in_ok-content_schema.content_schema content.ok ∙ ap (λ x. Some (object_doc x)) (sym c.object_with_content_schema.ensures);
      err = tt;
      counted = omega (arith, c.take_one-in_content.ensures.counted, c.take_of_object-in_object.ensures.counted, c.in_ok-object.ensures.counted, content.counted, object_content_counts c.in_ok-object.object c.in_ok-content_schema.content_schema c.in_ok-object.ensures.without, ap (λ x. schema_count (object_doc x)) c.object_with_content_schema.ensures);
    }
