use Rattle.utoipa_base.proofs.SendingAmong.{none_among}
use Rattle.utoipa_schema.proofs.left_out.emit_part.Goals as goal

pub returns-then-are_left_out : goal.returns-then-are_left_out
returns-then-are_left_out g c = rw (c.are_left_out.ensures c.if-are_left_out.true _) (none_among g.S.JsonSink.adds _ _ (g.met.S.JsonSink.none _))
