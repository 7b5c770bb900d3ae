use Rattle.std.proofs.Common.{to_z-of_z, sym, subst}
use Rattle.std.specs.Fmt.{signed_decimal}
use Rattle.serde_json.specs.Find.{of_integer}
use Rattle.utoipa_base.specs.Sent.{IsNumberText}
use Rattle.utoipa_base.proofs.SentTokens.{number_sent, text_of_integer}
use Rattle.utoipa_base.proofs.sink.WriterJsonSink.i64.Goals as goal

pub returns : goal.returns
returns c =
    let z = c.args.whole in
    let text = subst (λ w. IsNumberText (of_integer z) (signed_decimal w)) (sym (to_z-of_z c.ranges.whole)) (text_of_integer z c.ranges.whole) in
    number_sent c.i64.result _ _ (of_integer z) _ text c.i64.ensures
