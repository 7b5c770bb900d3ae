-- What was written is the text up to `at`, the room for the rest is left, and no write has failed.
use Rattle.std.proofs.Common.{◌≡◌, ◌≤◌, ◌-◌, length, take}
use Rattle.std.specs.Io.KnownBytes.{Appends}
use Rattle.utoipa_command.proofs.writing.write_whole.Given as goal

abbrev pub invariant-loop-at : goal.invariant-loop-at
invariant-loop-at g l = record {
  within : l.at ≤ length l.text;
  written : Appends (g.W.Write.contents l.initial.out) (g.W.Write.contents l.out) (take l.at l.text);
  room : length l.text ≤ g.W.Sink.room l.initial.out → length l.text - l.at ≤ g.W.Sink.room l.out;
  nothing : l.at ≡ 0 → l.out ≡ l.initial.out;
  unfailed : g.W.Sink.may_have_failed l.out ≡ g.W.Sink.may_have_failed l.initial.out;
}

abbrev pub decreases-loop-at : goal.decreases-loop-at
decreases-loop-at g l = length l.text - l.at
