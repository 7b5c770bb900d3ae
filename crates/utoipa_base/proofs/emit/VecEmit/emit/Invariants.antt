use Rattle.std.proofs.Common.{take}
use Rattle.utoipa_base.specs.Writing.{write}
use Rattle.utoipa_base.proofs.Sending.{items_by}
use Rattle.utoipa_base.proofs.emit.VecEmit.emit.Given as goal

abbrev pub invariant-loop-item : goal.invariant-loop-item
invariant-loop-item g l = g.S.JsonSink.adds l.initial.out (items_by (λ x. write (g.T.Documented.doc x)) (take l.item-index l.item-items)) l.out
