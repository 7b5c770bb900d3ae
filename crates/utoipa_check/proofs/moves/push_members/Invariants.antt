use Rattle.std.proofs.Common.{◌≡◌, ◌++◌}
use Rattle.serde_json.specs.View.{view, members_view}
use Rattle.utoipa_check.specs.Moves.{members_moves}
use Rattle.utoipa_check.specs.DroppedViews.{moves_of}
use Rattle.utoipa_check.proofs.moves.push_members.Given as goal

abbrev pub invariant-loop-name : goal.invariant-loop-name
invariant-loop-name l = moves_of l.moves.items ++ members_moves (members_view l.name-iterator) (view l.written) ≡ moves_of l.initial.moves.items ++ members_moves (members_view l.initial.name-iterator) (view l.written)
