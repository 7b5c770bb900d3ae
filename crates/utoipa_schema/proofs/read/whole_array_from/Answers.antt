use Rattle.std.proofs.Common.{[], Some, true, ap, ◌∙◌, sym, arith}
use Rattle.serde_json.specs.View.{view}
use Rattle.utoipa_base.specs.Values.{schema_count}
use Rattle.utoipa_schema.specs.Docs.{array_doc}
use Rattle.utoipa_schema.specs.Places.{data_of, of_array}
use Rattle.utoipa_schema.proofs.Fitting.{passes_fits, passes_refused}
use Rattle.utoipa_schema.proofs.SchemaCounts.{no_array, array_content_counts}
use Rattle.utoipa_schema.proofs.read.whole_array_from.Goals as goal

pub array_from-requires-clause-inside : goal.array_from-requires-clause-inside
array_from-requires-clause-inside c =
    let one = c.take_one-in_content.ensures.read true (of_array (data_of c.args.members.now)) c.requires.filled in
    (c.take_of_array-in_array.ensures.read [] one.1).0

pub returns-in_err-array : goal.returns-in_err-array
returns-in_err-array c = passes_refused _ _ _ _ _ c.from_residual.ensures.1 c.in_err-array.ensures.err

pub content_schema_from-requires : goal.content_schema_from-requires
content_schema_from-requires c = (c.take_one-in_content.ensures.read true (of_array (data_of c.args.members.now)) c.requires.filled).0

pub returns-in_err-content_schema : goal.returns-in_err-content_schema
returns-in_err-content_schema c = passes_fits _ _ _ _ _ _ _ _ c.from_residual-in_err-content_schema.ensures.1 (c.in_err-content_schema.ensures (view c.args.tree.now) (ap (λ m. m.content_schema) c.requires.found)) (no_array (view c.args.tree.now))

pub returns : goal.returns
returns c =
    let content = c.in_ok-content_schema.ensures (view c.args.tree.now) (ap (λ m. m.content_schema) c.requires.found) in
    record {
      ok = c.in_ok-array.ensures.ok c.in_ok-content_schema.content_schema content.ok ∙ ap (λ x. Some (array_doc x)) (sym c.array_with_content_schema.ensures);
      err = tt;
      counted = omega (arith, c.take_one-in_content.ensures.counted, c.take_of_array-in_array.ensures.counted, c.in_ok-array.ensures.counted, content.counted, array_content_counts c.in_ok-array.array c.in_ok-content_schema.content_schema c.in_ok-array.ensures.without, ap (λ x. schema_count (array_doc x)) c.array_with_content_schema.ensures);
    }
