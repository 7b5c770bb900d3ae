use Rattle.std.proofs.Common.{◌≤◌, [], length, drop}
use Rattle.std.specs.Fmt.{HasWritten, IsPlainFormatter}
use Rattle.utoipa_check.specs.Pointers.{shown_pointer}
use Rattle.utoipa_check.specs.Views.{outwards}
use Rattle.utoipa_check.proofs.pointer.ShownPointerDisplay.fmt.Given as goal

abbrev pub invariant-steps : goal.invariant-steps
invariant-steps g l = record {
  within : l.left ≤ length l.pointer.steps.items;
  written : IsPlainFormatter l.initial.f → HasWritten g.W.Write.write_str_gives l.initial.f (shown_pointer (outwards (drop l.left l.pointer.steps.items) [])) l.f;
}

abbrev pub decreases-steps : goal.decreases-steps
decreases-steps g l = l.left
