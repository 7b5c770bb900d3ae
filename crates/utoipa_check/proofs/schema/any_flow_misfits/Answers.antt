use Rattle.std.proofs.Common.{◌≡◌, IfOk, ap, sym, subst, ◌∙◌, []}
use Rattle.serde_json.specs.View.{view}
use Rattle.utoipa_base.specs.Choices.{flow_keys}
use Rattle.utoipa_check.specs.Misfits as specs
use Rattle.utoipa_check.specs.Views.{misfits_of}
use Rattle.utoipa_check.proofs.Flows.{flow_of_object, flow_of_other}
use Rattle.utoipa_tables.specs.Tables.{flow_kinds}
use Rattle.utoipa_check.proofs.schema.any_flow_misfits.Goals as goal

pub returns-then-not-is_object : goal.returns-then-not-is_object
returns-then-not-is_object c =
    subst (λ x. IfOk c.here.result (λ v. misfits_of v.items ≡ x))
    (ap (λ ks. specs.here (specs.no_alternative ks)) c.flow_kinds.ensures ∙ sym (flow_of_other (view c.args.tree.now) (sym c.is_object.ensures ∙ c.if-not-is_object.true))) c.here.ensures

pub returns-then-fits_any_flow : goal.returns-then-fits_any_flow
returns-then-fits_any_flow c =
    ap misfits_of c.new.ensures.items ∙ ap (λ b. specs.unless_fit b [] (flow_kinds flow_keys)) (sym c.if-fits_any_flow.true)
    ∙ sym (flow_of_object (view c.args.tree.now) _ (sym c.is_object.ensures ∙ c.if-not-is_object.false) c.fits_any_flow.ensures)

pub returns : goal.returns
returns c =
    subst (λ x. IfOk c.here-2.result (λ v. misfits_of v.items ≡ x))
    (ap (λ ks. specs.here (specs.no_alternative ks)) c.flow_kinds-2.ensures ∙ ap (λ b. specs.unless_fit b [] (flow_kinds flow_keys)) (sym c.if-fits_any_flow.false) ∙ sym (flow_of_object (view c.args.tree.now) _ (sym c.is_object.ensures ∙ c.if-not-is_object.false) c.fits_any_flow.ensures))
    c.here-2.ensures
