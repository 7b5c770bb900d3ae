use Rattle.std.proofs.Common.{◌≡◌, Some, suc, ◌+◌, ◌-◌, ap, sym, ◌∙◌, arith, option_map}
use Rattle.std.specs.Option.{unwrap_or}
use Rattle.serde_json.specs.View.{view}
use Rattle.utoipa_meaning.specs.Meaning.{found_parameter, parameter_count}
use Rattle.utoipa_meaning.proofs.Meant.{at_parameter, at_reference}
use Rattle.utoipa_meaning.proofs.parameters.meant_parameter.Goals as goal

pub loop-init : goal.loop-init
loop-init c =
    let e : c.parameter_count-end.result + 1 - 0 ≡ suc (parameter_count (view c.args.document.now)) = ap (λ n. n + 1 - 0) c.parameter_count-end.ensures ∙ omega arith in
    ap (λ n. found_parameter n (view c.args.document.now) (view c.args.parameter.now)) e

pub returns-in_default : goal.returns-in_default
returns-in_default c =
    let none = sym c.text_member.ensures ∙ ap (option_map (λ v. v.now)) c.in_default.is in
    ap (λ o. unwrap_or o (view c.args.parameter.now))
    (at_parameter (view c.args.document.now) c.parameter_count-end.result c.loop.counter c.loop-test.true (view c.loop.reached.now) _ c.loop.invariant none)

pub loop-preserved : goal.loop-preserved
loop-preserved c =
    let is = sym c.text_member.ensures ∙ ap (option_map (λ v. v.now)) c.in-Some.is in
    let entry = ap (option_map (λ v. view v.now)) c.in-Some-2.is in
    at_reference (view c.args.document.now) c.parameter_count-end.result c.loop.counter c.loop-test.true (view c.loop.reached.now) _ c.loop.invariant
    c.in-Some.location.now (Some (view c.in-Some-2.entry.now)) is (sym entry ∙ c.in_ok-entry.ensures)
