use Rattle.std.proofs.Common.{arith, refl, subst}
use Rattle.std.proofs.Output.{has_written_append}
use Rattle.std.specs.Fmt.{HasWritten}
use Rattle.utoipa_check.proofs.Said.{kinds_split}
use Rattle.utoipa_check.proofs.message.write_kinds.Goals as goal

pub returns : goal.returns
returns g c = λ plain ok.
    let before = c.in_ok-write.ensures.writes plain refl in
    let both = has_written_append _ _ _ _ _ _ before (c.loop-kind.invariant before.plain) in
    let said = kinds_split c.args.kinds.now c.first-item.result _ c.expectation-expected.result.now c.loop-kind.kind-index c.in-len1-up.len_at_least c.first-item.is c.expectation-expected.ensures (omega (arith, c.loop-kind-test.false)) in
    subst (λ bs. HasWritten g.W.Write.write_str_gives c.args.f.now bs c.loop-kind.f) said both
