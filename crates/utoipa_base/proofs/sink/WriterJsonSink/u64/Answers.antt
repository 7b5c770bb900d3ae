use Rattle.std.proofs.Common.{arith}
use Rattle.serde_json.specs.Data.{unsigned}
use Rattle.utoipa_base.proofs.SentTokens.{number_sent, text_of_unsigned}
use Rattle.utoipa_base.proofs.sink.WriterJsonSink.u64.Goals as goal

pub returns : goal.returns
returns c = number_sent c.u64.result _ _ (unsigned c.args.whole) _ (text_of_unsigned c.args.whole (omega arith)) c.u64.ensures
