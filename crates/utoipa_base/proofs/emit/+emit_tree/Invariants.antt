use Rattle.std.proofs.Common.{take}
use Rattle.serde_json.specs.View.{view}
use Rattle.utoipa_base.proofs.Sending.{items_by, EntriesSent}
use Rattle.utoipa_base.proofs.emit.+emit_tree.Given as goal

abbrev pub invariant-emit_items-loop-item : goal.invariant-emit_items-loop-item
invariant-emit_items-loop-item g l = g.S.JsonSink.adds l.initial.out (items_by view (take l.item-index l.item-items)) l.out

abbrev pub invariant-emit_members-loop-key : goal.invariant-emit_members-loop-key
invariant-emit_members-loop-key g l = EntriesSent g.S.JsonSink.adds view l.members.entries l.key-iterator l.initial.out l.out
