use Rattle.std.proofs.Common.{◌≡◌, Some, None, true, false, ap, ◌∙◌, sym, rules, arith}
use Rattle.serde_json.specs.Find.{as_bool}
use Rattle.serde_json.specs.View.{view}
use Rattle.utoipa_base.specs.Kinds.{schema, ref_or}
use Rattle.utoipa_base.specs.Reading.{read}
use Rattle.utoipa_base.specs.Values.{schema_count}
use Rattle.utoipa_base.proofs.Places.{schema_count-flag}
use Rattle.utoipa_schema.specs.Folds.{items-False, items-RefOrSchema}
use Rattle.utoipa_schema.specs.Outcomes.{outcome_doc}
use Rattle.utoipa_schema.proofs.Choices.{items_false, items_true, items_place}
use Rattle.utoipa_schema.proofs.Fitting.{fits_refused, passes_fits, alone_read}
use Rattle.utoipa_schema.proofs.members.items_from.Goals as goal

pub returns-in-Some-false : goal.returns-in-Some-false
returns-in-Some-false c =
    let flag : as_bool (view c.args.tree.now) ≡ Some false = search rules in
    record { ok = items_false (view c.args.tree.now) flag ∙ ap Some (sym items-False); err = tt; counted = omega (arith, ap schema_count items-False, schema_count-flag false) }

pub returns-in-Some-true : goal.returns-in-Some-true
returns-in-Some-true c =
    let flag : as_bool (view c.args.tree.now) ≡ Some true = search rules in
    fits_refused _ _ _ _ (items_true (view c.args.tree.now) flag)

pub returns-in_err-only_place-in-None : goal.returns-in_err-only_place-in-None
returns-in_err-only_place-in-None c =
    let flag : as_bool (view c.args.tree.now) ≡ None = search rules in
    let same : outcome_doc c.args.outcome ≡ read (ref_or schema) (view c.args.tree.now) = c.requires ∙ alone_read (view c.args.tree.now) in
    passes_fits _ _ _ _ _ _ _ _ c.from_residual.ensures.1 c.in_err-only_place-in-None.ensures (λ h. items_place (view c.args.tree.now) flag ∙ sym same ∙ h)

pub returns : goal.returns
returns c =
    let flag : as_bool (view c.args.tree.now) ≡ None = search rules in
    let same : outcome_doc c.args.outcome ≡ read (ref_or schema) (view c.args.tree.now) = c.requires ∙ alone_read (view c.args.tree.now) in
    let one = c.in_ok-only_place-in-None.ensures in
    let place = c.in_ok-only_place-in-None.field-0 in
    record { ok = items_place (view c.args.tree.now) flag ∙ sym same ∙ one.ok ∙ ap Some (sym (items-RefOrSchema place)); err = tt; counted = omega (arith, one.counted, ap schema_count (items-RefOrSchema place)) }
