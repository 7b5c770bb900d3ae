use Rattle.std.proofs.Common.{◌≡◌}
use Rattle.utoipa_base.proofs.NameHashes.{once_written}
use Rattle.utoipa_base.proofs.name_hasher.NameHasher.from_names.Given as goal

abbrev pub invariant-loop-name : goal.invariant-loop-name
invariant-loop-name g l = once_written l.state l.name-iterator ≡ once_written l.initial.state l.initial.name-iterator
