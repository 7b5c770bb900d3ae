use Rattle.std.proofs.Common.{sym, ap}
use Rattle.std.proofs.lemmas.Result.{on_ok_weaker}
use Rattle.utoipa_base.specs.Events.{events}
use Rattle.utoipa_base.proofs.Sending.{added_as, events-none, write-some}
use Rattle.utoipa_base.proofs.emit_rows.emit_option.Goals as goal

pub returns-in-Some : goal.returns-in-Some
returns-in-Some g c = rw c.in-Some.is (on_ok_weaker c.emit.result (added_as g.S.JsonSink.adds _ _ _ _ (ap events (sym (write-some _)))) c.emit.ensures)

pub returns-in-None : goal.returns-in-None
returns-in-None g c = rw c.in-None.is (on_ok_weaker c.null.result (added_as g.S.JsonSink.adds _ _ _ _ (sym events-none)) c.null.ensures)
