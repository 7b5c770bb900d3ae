use Rattle.utoipa_base.specs.Pending.{pending_view}
use Rattle.utoipa_base.proofs.FieldsInOrder.{members_count}
use Rattle.utoipa_base.proofs.SendingAmong.{SentSoFar}
use Rattle.utoipa_base.proofs.pending.PendingExtensions.emit_end.Given as goal

abbrev pub invariant-loop-pending : goal.invariant-loop-pending
invariant-loop-pending g l = SentSoFar g.S.JsonSink.adds (pending_view l.fn.self) (pending_view l.pending) l.initial.out l.out

abbrev pub decreases-loop-pending : goal.decreases-loop-pending
decreases-loop-pending g l = members_count (pending_view l.pending)
