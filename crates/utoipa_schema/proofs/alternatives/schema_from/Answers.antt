use Rattle.std.proofs.Common.{◌≡◌, Some, Ok, MatchOption, option_map, subst, sym, ap, ◌∙◌, arith}
use Rattle.serde_json.specs.View.{view}
use Rattle.std.proofs.lemmas.Result.{IfOk-weaker}
use Rattle.utoipa_base.specs.Docs.{own_doc}
use Rattle.utoipa_base.specs.Fields.{field}
use Rattle.utoipa_base.specs.Kinds.{schema}
use Rattle.utoipa_base.specs.Reading.{read}
use Rattle.utoipa_schema.specs.Choice.{IsNoCombination, content_schema_row, content_schema_doc}
use Rattle.utoipa_schema.specs.Outcomes.{outcome_doc, count_of}
use Rattle.utoipa_schema.proofs.Choices.{no_schema}
use Rattle.utoipa_schema.proofs.Fitting.{fits_value, fits_none}
use Rattle.utoipa_schema.proofs.SchemaCounts.{no_array, no_object_table}
use Rattle.utoipa_schema.proofs.alternatives.schema_from.Goals as goal

pub combination_from-requires-clause-inside : goal.combination_from-requires-clause-inside
combination_from-requires-clause-inside c = c.requires.inside.combinations

pub content_schema_from-requires : goal.content_schema_from-requires
content_schema_from-requires c = c.requires.inside.content_schema

pub returns-in-Some-clause-read : goal.returns-in-Some-clause-read
returns-in-Some-clause-read c = subst (λ o. MatchOption o (IsNoCombination (view c.args.tree.now)) (λ place. outcome_doc (Some place) ≡ option_map own_doc (read schema (view c.args.tree.now)))) c.in-Some.is c.in_ok-combination.ensures.read

pub returns-in-Some-clause-counted : goal.returns-in-Some-clause-counted
returns-in-Some-clause-counted c = omega (arith, c.in_ok-combination.ensures.counted, ap (λ o. count_of (outcome_doc o)) c.in-Some.is)

pub array_or_object_from-requires-clause-array : goal.array_or_object_from-requires-clause-array
array_or_object_from-requires-clause-array c = c.requires.inside.array

pub array_or_object_from-requires-clause-object : goal.array_or_object_from-requires-clause-object
array_or_object_from-requires-clause-object c = c.requires.inside.object

pub array_or_object_from-requires-clause-no_combination : goal.array_or_object_from-requires-clause-no_combination
array_or_object_from-requires-clause-no_combination c = subst (λ o. MatchOption o (IsNoCombination (view c.args.tree.now)) (λ place. outcome_doc (Some place) ≡ option_map own_doc (read schema (view c.args.tree.now)))) c.in_default.is c.in_ok-combination.ensures.read

pub array_or_object_from-requires-clause-content : goal.array_or_object_from-requires-clause-content
array_or_object_from-requires-clause-content c =
    let content = fits_value content_schema_doc (field content_schema_row (view c.args.tree.now)) c.content_schema_from.result c.in-Some-2.content_schema _ (c.content_schema_from.ensures (view c.args.tree.now) (ap (λ m. m.content_schema) c.requires.found)) (c.in_ok-content_schema.ensures ∙ ap Ok c.in-Some-2.is) in
    content.0

pub returns-in-Some-2-clause-counted : goal.returns-in-Some-2-clause-counted
returns-in-Some-2-clause-counted c =
    let content = fits_value content_schema_doc (field content_schema_row (view c.args.tree.now)) c.content_schema_from.result c.in-Some-2.content_schema _ (c.content_schema_from.ensures (view c.args.tree.now) (ap (λ m. m.content_schema) c.requires.found)) (c.in_ok-content_schema.ensures ∙ ap Ok c.in-Some-2.is) in
    IfOk-weaker c.array_or_object_from.result _ _ (λ o h. omega (arith, h, content.1)) c.array_or_object_from.ensures.counted

pub returns-in-None-clause-read : goal.returns-in-None-clause-read
returns-in-None-clause-read c =
    let alone = subst (λ o. MatchOption o (IsNoCombination (view c.args.tree.now)) (λ place. outcome_doc (Some place) ≡ option_map own_doc (read schema (view c.args.tree.now)))) c.in_default.is c.in_ok-combination.ensures.read in
    let none = fits_none content_schema_doc (field content_schema_row (view c.args.tree.now)) c.content_schema_from.result _ (c.content_schema_from.ensures (view c.args.tree.now) (ap (λ m. m.content_schema) c.requires.found)) (c.in_ok-content_schema.ensures ∙ ap Ok c.in-None.is) in
    sym (ap (option_map own_doc) (no_schema (view c.args.tree.now) alone (no_array (view c.args.tree.now) none) (no_object_table (view c.args.tree.now) none)))
