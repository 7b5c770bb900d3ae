-- What the values of the program stand for.
use Rattle.std.specs.Prelude.{List, [], map, reverse, Option, option_map}
use Rattle.std.specs.Borrow.{Bor}
use Rattle.serde_json.specs.Data.{Data}
use Rattle.serde_json.specs.View.{view}
use Rattle.serde_json.specs.declared.value.Value.{Value}
use Rattle.utoipa_check.specs.Dropped as specs
use Rattle.utoipa_check.specs.Moves as moves
use Rattle.utoipa_check.specs.Views.{step_of, outwards}
use Rattle.utoipa_check.specs.Misfits as steps
use Rattle.utoipa_check.specs.declared.dropped.Dropped.{Dropped}
use Rattle.utoipa_check.specs.declared.dropped.Loss.{Loss}
use Rattle.utoipa_check.specs.declared.dropped.Loss.TheVariants as losses
use Rattle.utoipa_check.specs.declared.misfit.Step.{Step}
use Rattle.utoipa_check.specs.declared.moves.Move.{Move}
use Rattle.utoipa_check.specs.declared.moves.Move.TheVariants as program_moves

abbrev pub loss_of : Loss → specs.Loss
loss_of losses.Absent = specs.absent
loss_of losses.LeftOut = specs.left_out
loss_of losses.Changed = specs.changed

abbrev pub dropped_of : Dropped → specs.Dropped
dropped_of p = (outwards p.pointer.steps.items [], loss_of p.loss)

abbrev pub all_dropped : List Dropped → List specs.Dropped
all_dropped ps = map dropped_of ps

-- what a move has of the written tree
abbrev pub written_of : Option (Bor Value) → Option Data
written_of o = option_map (λ v. view v.now) o

abbrev pub move_of : Move → moves.Move
move_of (program_moves.Enter s t o) = moves.enter (step_of s) (view t.now) (written_of o)
move_of program_moves.Leave = moves.leave

abbrev pub moves_of : List Move → List moves.Move
moves_of ts = map move_of ts

-- moves, the last one first
abbrev pub stacked : List Move → List moves.Move
stacked ts = reverse (moves_of ts)

-- steps, the last one first
abbrev pub path_of : List Step → List steps.Step
path_of ss = reverse (map step_of ss)
