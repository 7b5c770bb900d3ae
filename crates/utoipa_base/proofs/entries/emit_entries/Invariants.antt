use Rattle.utoipa_base.specs.Pending.{pending_view}
use Rattle.utoipa_base.proofs.SendingAmong.{EntriesAmong}
use Rattle.utoipa_base.proofs.entries.emit_entries.Given as goal

abbrev pub invariant-loop-key : goal.invariant-loop-key
invariant-loop-key g l = EntriesAmong g.S.JsonSink.adds g.T.Documented.doc l.entries.entries l.key-iterator (pending_view l.initial.left) (pending_view l.left) l.initial.out l.out
