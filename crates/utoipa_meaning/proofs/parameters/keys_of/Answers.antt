use Rattle.std.proofs.Common.{◌≡◌, ◌<◌, ◌≤◌, length, get_or, subst}
use Rattle.utoipa_meaning.specs.Meaning.{is_listed}
use Rattle.utoipa_meaning.specs.Views.{has_key, borrowed}
use Rattle.utoipa_meaning.proofs.Keys.{next_key, all_keys}
use Rattle.utoipa_meaning.proofs.parameters.keys_of.Goals as goal

pub loop-parameter-preserved : goal.loop-parameter-preserved
loop-parameter-preserved c = λ n.
    let all = c.args.parameters.now.items in
    let x = c.parameter-item.result in
    let within = subst (λ ps. c.loop-parameter.parameter-index < length ps) c.deref-parameter-items.ensures.value c.loop-parameter-test.true in
    let is = subst (λ ps. x ≡ get_or ps c.loop-parameter.parameter-index x) c.deref-parameter-items.ensures.value c.parameter-item.is in
    next_key all c.loop-parameter.parameter-index x n (has_key c.loop-parameter.keys n) (has_key c.note.new.keys n) (is_listed n (borrowed all)) within is (c.in_ok-note.ensures n) (c.loop-parameter.invariant n)

pub returns : goal.returns
returns c = λ n.
    let all = c.args.parameters.now.items in
    let past = subst (λ ps. length ps ≤ c.loop-parameter.parameter-index) c.deref-parameter-items.ensures.value c.loop-parameter-test.false in
    all_keys all c.loop-parameter.parameter-index n (has_key c.loop-parameter.keys n) (is_listed n (borrowed all)) past (c.loop-parameter.invariant n)
