use Rattle.std.proofs.Common.{arith, refl, subst}
use Rattle.std.proofs.Output.{has_written_append}
use Rattle.std.specs.Fmt.{HasWritten}
use Rattle.utoipa_check.proofs.Said.{words_split}
use Rattle.utoipa_check.proofs.message.write_words.Goals as goal

pub returns : goal.returns
returns g c = λ plain ok.
    let before = c.in_ok-write.ensures.writes plain refl in
    let both = has_written_append _ _ _ _ _ _ before (c.loop-word.invariant before.plain) in
    subst (λ bs. HasWritten g.W.Write.write_str_gives c.args.f.now bs c.loop-word.f) (words_split c.args.words.now _ c.loop-word.word-index c.in-len1-up.len_at_least (omega (arith, c.loop-word-test.false))) both
