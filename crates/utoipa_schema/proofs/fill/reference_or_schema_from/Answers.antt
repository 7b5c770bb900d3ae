use Rattle.std.proofs.Common.{◌≡◌, Some, Ok, ap, ◌∙◌, sym, refl, arith, rules}
use Rattle.serde_json.specs.View.{view}
use Rattle.std.proofs.lemmas.Result.{IfOk-weaker}
use Rattle.utoipa_base.specs.Kinds.{named, reference_object, schema, ref_or}
use Rattle.utoipa_base.specs.Reading.{read}
use Rattle.utoipa_base.specs.Refs.{reference_doc, ref_or_doc}
use Rattle.utoipa_base.specs.Values.{schema_count}
use Rattle.utoipa_base.specs.declared.refs.RefOr.TheVariants as RefOr
use Rattle.utoipa_base.proofs.Alternatives.{ref_reads}
use Rattle.utoipa_base.proofs.Places.{reference_counted}
use Rattle.utoipa_base.proofs.Readers.{reads_value}
use Rattle.utoipa_base.proofs.Tried.{fits_as, fits_not}
use Rattle.utoipa_schema.specs.Docs.{schema_doc}
use Rattle.utoipa_schema.proofs.Filling.{unreferenced}
use Rattle.utoipa_schema.proofs.fill.reference_or_schema_from.Goals as goal

pub returns-in_ok-new-in-Some-clause-read : goal.returns-in_ok-new-in-Some-clause-read
returns-in_ok-new-in-Some-clause-read c =
    let r = c.in-Some.reference in
    let this = reads_value reference_doc _ c.read_plain.result r _ _ _ c.read_plain.ensures (fits_as _ r (c.in_ok-reference.ensures ∙ ap Ok c.in-Some.is)) in
    let held : c.in_ok-new-in-Some.field-0.value ≡ RefOr.Ref r = search rules in
    ap (λ p. Some (ref_or_doc schema schema_doc p)) held ∙ sym (ref_reads (ref_or schema) schema _ _ refl this.ok)

pub returns-in_ok-new-in-Some-clause-counted : goal.returns-in_ok-new-in-Some-clause-counted
returns-in_ok-new-in-Some-clause-counted c =
    let held : c.in_ok-new-in-Some.field-0.value ≡ RefOr.Ref c.in-Some.reference = search rules in
    omega (arith, reference_counted schema (reference_doc c.in-Some.reference), ap (λ p. schema_count (ref_or_doc schema schema_doc p)) held)

pub returns-in-None-clause-read : goal.returns-in-None-clause-read
returns-in-None-clause-read c =
    let gone = fits_not reference_doc (read (named reference_object) (view c.args.tree.now)) c.read_plain.result _ _ _ c.read_plain.ensures (c.in_ok-reference.ensures ∙ ap Ok c.in-None.is) in
    IfOk-weaker c.schema_from.result _ _ (λ o e. e ∙ sym (unreferenced (view c.args.tree.now) gone)) c.schema_from.ensures.read
