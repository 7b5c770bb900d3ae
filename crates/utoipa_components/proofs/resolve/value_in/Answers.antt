use Rattle.std.proofs.Common.{◌≡◌, None, Some, ◌+◌, ◌-◌, length, suc, ap, sym, ◌∙◌, arith, option_map}
use Rattle.utoipa_components.specs.Resolve.{found}
use Rattle.utoipa_components.proofs.Found.{at_value, at_entry}
use Rattle.utoipa_components.proofs.resolve.value_in.Goals as goal

pub loop-init : goal.loop-init
loop-init g c =
    let e : c.len-end.result + 1 - 0 ≡ suc (length c.args.entries.now.entries) = ap (λ n. n + 1 - 0) c.len-end.ensures.len ∙ omega arith in
    ap (λ n. found n c.args.map c.args.entries.now c.args.place.now) e

pub returns-in-T : goal.returns-in-T
returns-in-T g c = at_value c.args.map c.args.entries.now c.len-end.result c.loop.counter c.loop-test.true c.loop.reached.now _ c.loop.invariant c.in-T.value c.in-T.is

pub loop-preserved : goal.loop-preserved
loop-preserved g c =
    let entry : option_map (λ e. e.now) c.in_ok-entry-in-Ref.field-0 ≡ Some c.in-Some.entry.now = ap (option_map (λ e. e.now)) c.in-Some.is in
    at_entry c.args.map c.args.entries.now c.len-end.result c.loop.counter c.loop-test.true c.loop.reached.now _ c.loop.invariant
    c.in-Ref.reference (Some c.in-Some.entry.now) c.in-Ref.is (sym entry ∙ c.in_ok-entry-in-Ref.ensures)

pub returns-in_default : goal.returns-in_default
returns-in_default g c =
    let entry : option_map (λ e. e.now) c.in_ok-entry-in-Ref.field-0 ≡ None = ap (option_map (λ e. e.now)) c.in_default.is in
    at_entry c.args.map c.args.entries.now c.len-end.result c.loop.counter c.loop-test.true c.loop.reached.now _ c.loop.invariant
    c.in-Ref.reference None c.in-Ref.is (sym entry ∙ c.in_ok-entry-in-Ref.ensures)
