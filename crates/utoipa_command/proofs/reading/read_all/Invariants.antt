-- What was read is the text so far, and no read has failed.
use Rattle.std.proofs.Common.{◌≡◌}
use Rattle.std.specs.Io.KnownBytes.{Consumes}
use Rattle.utoipa_command.proofs.reading.read_all.Given as goal

abbrev pub invariant-loop : goal.invariant-loop
invariant-loop g l = record {
  read : Consumes (g.R.Read.remaining l.initial.input) (g.R.Read.remaining l.input) l.text.items;
  unfailed : g.R.Source.may_have_failed l.input ≡ g.R.Source.may_have_failed l.initial.input;
}
