use Rattle.std.proofs.Common.{◌≡◌, Some, None, ap, ◌∙◌, sym, rules, arith}
use Rattle.serde_json.specs.Find.{as_bool}
use Rattle.serde_json.specs.View.{view}
use Rattle.utoipa_base.specs.Kinds.{schema, ref_or}
use Rattle.utoipa_base.specs.Reading.{read}
use Rattle.utoipa_base.specs.Refs.{ref_or_doc}
use Rattle.utoipa_base.specs.Values.{schema_count}
use Rattle.utoipa_base.proofs.Places.{schema_count-flag}
use Rattle.utoipa_schema.specs.Docs.{schema_doc}
use Rattle.utoipa_schema.specs.Outcomes.{outcome_doc}
use Rattle.utoipa_schema.proofs.Choices.{additional_flag, additional_place}
use Rattle.utoipa_schema.proofs.Fitting.{passes_fits, alone_read}
use Rattle.utoipa_schema.proofs.members.additional_from.Goals as goal

pub returns-in-Some : goal.returns-in-Some
returns-in-Some c =
    let flag : as_bool (view c.args.tree.now) ≡ Some c.in-Some.free = search rules in
    record { ok = additional_flag (view c.args.tree.now) c.in-Some.free flag; err = tt; counted = omega (arith, schema_count-flag c.in-Some.free) }

pub returns-in_err-place-in-None : goal.returns-in_err-place-in-None
returns-in_err-place-in-None c =
    let flag : as_bool (view c.args.tree.now) ≡ None = search rules in
    let same : outcome_doc c.args.outcome ≡ read (ref_or schema) (view c.args.tree.now) = c.requires ∙ alone_read (view c.args.tree.now) in
    passes_fits _ _ _ _ _ _ _ _ c.from_residual.ensures.1 c.in_err-place-in-None.ensures (λ h. additional_place (view c.args.tree.now) flag ∙ sym same ∙ h)

pub returns-in_ok-place-in-None : goal.returns-in_ok-place-in-None
returns-in_ok-place-in-None c =
    let flag : as_bool (view c.args.tree.now) ≡ None = search rules in
    let same : outcome_doc c.args.outcome ≡ read (ref_or schema) (view c.args.tree.now) = c.requires ∙ alone_read (view c.args.tree.now) in
    let one = c.in_ok-place-in-None.ensures in
    let held = c.into_inner.ensures in
    record {
      ok = additional_place (view c.args.tree.now) flag ∙ sym same ∙ one.ok ∙ ap (λ p. Some (ref_or_doc schema schema_doc p)) (sym held);
      err = tt;
      counted = omega (arith, one.counted, ap (λ p. schema_count (ref_or_doc schema schema_doc p)) held);
    }
